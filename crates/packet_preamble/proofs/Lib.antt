pub mod Preambles
