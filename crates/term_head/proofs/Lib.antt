mod Counted
mod Limits
mod Leaves
mod Texts
mod LaterFields
mod Tags
pub mod HeadFacts
pub mod Openings
pub mod OpeningFacts
mod Words
pub mod Common
