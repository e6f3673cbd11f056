pub mod Code
pub mod Promises
