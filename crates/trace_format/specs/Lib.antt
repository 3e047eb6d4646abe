pub mod Balance
pub mod Events
pub mod Heads
pub mod Packed
pub mod Stages
pub mod TraceFiles
