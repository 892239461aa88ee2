pub mod Laid
pub mod Laying
pub mod Spread
pub mod Crossed
pub mod Holding
pub mod Turned
