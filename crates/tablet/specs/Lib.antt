pub mod Numbers
pub mod Version
