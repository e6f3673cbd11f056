pub mod Whole
pub mod Demand
