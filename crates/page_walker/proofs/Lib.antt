mod Assigned
mod Blocks
mod Endings
mod Enters
mod Lighter
mod Parts
mod Rows
mod Within
