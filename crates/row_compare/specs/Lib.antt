pub mod Same
pub mod Hash
