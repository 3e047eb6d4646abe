pub mod Actions
pub mod Balances
pub mod Legal
pub mod Rests
pub mod Seated
