pub mod Headers
pub mod Rests
