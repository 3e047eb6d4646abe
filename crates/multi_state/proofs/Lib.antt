pub mod Following
mod Laws
pub mod Marks
mod NodesDo
pub mod Parting
pub mod Parts
pub mod Stacks
mod Statuses
pub mod Totals
