mod AuditRows
pub mod Checks
pub mod Cuts
pub mod EdgeKinds
pub mod Filters
pub mod GraphOrder
pub mod Induction
pub mod Logs
pub mod Members
pub mod Orders
pub mod Places
pub mod Placing
pub mod Soundly
pub mod Walking
pub mod Words
