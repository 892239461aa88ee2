pub mod ProgramExamples
pub mod Noughts
pub mod Cuts
pub mod LineOf
