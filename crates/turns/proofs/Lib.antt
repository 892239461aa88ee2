pub mod At
pub mod Stored
pub mod Kept
pub mod Waiting
pub mod Meeting
pub mod Stretches
