pub mod ListSize
pub mod PlaceText
