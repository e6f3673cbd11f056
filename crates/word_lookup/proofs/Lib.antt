pub mod Words
pub mod OwnWords
