pub mod InTable
pub mod PairOrder
pub mod Strings
pub mod Terms
pub mod Pairs
