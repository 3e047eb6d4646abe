pub mod Lockstep
pub mod Responses
pub mod Together
