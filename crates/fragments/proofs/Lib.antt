pub mod Taking
pub mod Continuations
