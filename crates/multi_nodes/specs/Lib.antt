pub mod Answers
pub mod Charges
pub mod Members
