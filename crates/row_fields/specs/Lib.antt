pub mod Found
pub mod Meaning
