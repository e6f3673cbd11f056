mod Ascii
mod Characters
mod Latin1
pub mod Valid
