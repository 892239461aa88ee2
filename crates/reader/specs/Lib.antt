pub mod ReadOn
pub mod State
