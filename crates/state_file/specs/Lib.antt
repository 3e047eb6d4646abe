pub mod FaultTexts
pub mod Faults
pub mod Givens
pub mod Puts
pub mod Starts
pub mod States
pub mod Stored
pub mod Values
