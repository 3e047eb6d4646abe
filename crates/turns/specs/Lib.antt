pub mod ByTurns
pub mod Drawn
pub mod Offers
pub mod Run
pub mod Seated
pub mod Turned
