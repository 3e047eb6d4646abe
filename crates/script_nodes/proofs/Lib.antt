mod Filled
pub mod Nodes
pub mod ValueFaults
