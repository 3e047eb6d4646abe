pub mod Differences
pub mod Laws
pub mod Opened
pub mod OpenedView
pub mod Runners
pub mod Stages
pub mod Standings
