pub mod ActOf
pub mod FitsOperation
pub mod FitsTransaction
pub mod Laws
pub mod OfProgram
pub mod StoredLimits
pub mod TransactionOf
