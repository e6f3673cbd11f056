pub mod Standalones
