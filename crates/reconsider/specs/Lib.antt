pub mod Flags
pub mod RowsMet
pub mod Marks
pub mod Reaches
