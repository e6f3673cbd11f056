pub mod Standing
pub mod PlaceNaming
pub mod Texts
pub mod Judging
pub mod Walk
pub mod Good
pub mod Accepted
