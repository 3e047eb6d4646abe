mod Cells
mod Falls
mod Following
mod Parts
mod Runs
mod Slots
mod Stacks
mod Trails
