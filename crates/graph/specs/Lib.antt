pub mod Grown
pub mod Contracted
