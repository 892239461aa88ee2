pub mod LacksEdge
pub mod Arcs
