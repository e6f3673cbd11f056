pub mod Characters
pub mod Found
pub mod Openings
pub mod Runs
pub mod Bodies
pub mod Inner
pub mod Quick
pub mod Entries
