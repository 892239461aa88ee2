pub mod Told
pub mod Numbers
