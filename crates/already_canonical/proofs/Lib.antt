pub mod Stands
pub mod Nodes
