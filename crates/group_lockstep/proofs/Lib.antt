mod AllGroups
mod Each
mod Members
mod Plainly
mod Steps
mod Unsound
