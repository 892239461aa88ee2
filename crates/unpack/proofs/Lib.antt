pub mod Put
pub mod ArcOf
pub mod Lows
pub mod Edge
pub mod MiddleIn
pub mod WayAlong
