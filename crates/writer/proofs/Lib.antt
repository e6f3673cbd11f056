pub mod Read
pub mod Messages
pub mod Demand
pub mod Cases
pub mod Scratch
