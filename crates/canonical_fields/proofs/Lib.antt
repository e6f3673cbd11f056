pub mod Shape
pub mod Leads
pub mod Each
pub mod There
