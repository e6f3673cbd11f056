pub mod InTable
pub mod Code
pub mod PairOrder
