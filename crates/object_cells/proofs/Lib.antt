pub mod Acts
pub mod CellFacts
pub mod Fits
pub mod StoreFacts
