pub mod Code
pub mod Quick
