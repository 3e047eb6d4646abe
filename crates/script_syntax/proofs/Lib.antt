pub mod Descend
pub mod Parses
