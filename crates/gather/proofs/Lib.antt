pub mod Members
pub mod PutIn
pub mod AllPutIn
pub mod Walking
pub mod Arcs
pub mod WithChildren
pub mod Gathered
