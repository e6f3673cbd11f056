pub mod Shown
pub mod Characters
