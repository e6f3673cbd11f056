pub mod Demand
pub mod Given
