pub mod Parts
pub mod Stores
pub mod Cleared
pub mod Numbers
pub mod Bits
pub mod Widths
pub mod Counted
pub mod ByteOrder
