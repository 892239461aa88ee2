pub mod Writes
pub mod Grown
pub mod Contracted
