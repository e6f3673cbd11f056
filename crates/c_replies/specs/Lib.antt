pub mod Packets
pub mod Terms
