pub mod Signed
pub mod Numbers
pub mod Texts
pub mod Rows
pub mod Calls
pub mod Ways
