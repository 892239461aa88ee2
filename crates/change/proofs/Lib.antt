pub mod Walked
pub mod Laid
pub mod Settled
pub mod Counted
pub mod Turned
pub mod Carried
pub mod Change
