pub mod Agree
pub mod EqualMembers
pub mod Evaluations
pub mod Keeping
pub mod Nodes
pub mod Sharing
pub mod Shown
pub mod Steady
