pub mod ActOf
pub mod ActTested
pub mod Changed
pub mod OfProgram
pub mod Stay
pub mod TableRows
pub mod Transacted
