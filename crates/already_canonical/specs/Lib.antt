pub mod Stands
