pub mod GroupView
pub mod Groups
pub mod LeftBy
pub mod Traces
