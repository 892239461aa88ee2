pub mod Row
pub mod Swept
pub mod Told
