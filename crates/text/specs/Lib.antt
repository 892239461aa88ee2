pub mod Bytes
pub mod Program
pub mod ProgramExamples
pub mod ReadBack
