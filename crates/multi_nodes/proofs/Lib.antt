pub mod Agreed
pub mod Below
pub mod Gathered
pub mod OneKind
pub mod Parameters
pub mod Parting
pub mod Prices
