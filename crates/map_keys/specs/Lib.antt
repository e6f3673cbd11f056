pub mod Path
pub mod Compare
pub mod Found
pub mod Marks
pub mod KeySet
pub mod Lent
