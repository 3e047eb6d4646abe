pub mod Acting
pub mod Kept
pub mod OfPrograms
pub mod Sets
