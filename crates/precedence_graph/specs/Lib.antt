pub mod Departures
pub mod EdgeLists
pub mod Edges
pub mod Paths
pub mod Since
