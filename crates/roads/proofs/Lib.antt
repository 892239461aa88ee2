pub mod ByTail
pub mod LastListed
pub mod OfNet
