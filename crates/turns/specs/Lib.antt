pub mod Edges
pub mod Waiting
pub mod Met
