pub mod Bits
pub mod Said
pub mod Flags
pub mod Marks
pub mod Wording
pub mod Reaches
