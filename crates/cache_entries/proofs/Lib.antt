pub mod Storing
pub mod Loops
