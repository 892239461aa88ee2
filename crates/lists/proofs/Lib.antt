pub mod Refusals
pub mod Orders
pub mod Found
pub mod Filled
pub mod Positions
