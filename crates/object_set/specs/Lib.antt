pub mod Applied
pub mod ObjectSets
pub mod ObjectSetView
pub mod OfProgram
pub mod Stored
