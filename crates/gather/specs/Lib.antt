pub mod NextMembers
pub mod Arcs
pub mod Gathered
