pub mod CallsMade
pub mod OperandView
pub mod OutputView
pub mod Outputs
pub mod Plain
pub mod Queries
