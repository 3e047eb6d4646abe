pub mod Agree
mod Blind
mod Counts
mod EqualMembers
pub mod Growth
pub mod Instructions
pub mod NodesGive
pub mod NodesPart
pub mod Onward
pub mod Parting
pub mod Same
mod Shared
pub mod ShowAlike
mod Spending
mod Sums
mod Walk
