pub mod Traced
pub mod Steps
pub mod WayOver
pub mod LeftAfter
pub mod Given
pub mod RouteLeaves
pub mod Ends
