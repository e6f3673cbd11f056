pub mod Lists
pub mod Alike
pub mod Nodes
pub mod Hashes
