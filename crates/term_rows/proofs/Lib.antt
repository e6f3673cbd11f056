pub mod Known
pub mod InTable
pub mod Accepted
