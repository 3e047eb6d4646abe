mod Entries
mod Found
pub mod Grouped
mod Leasts
mod Places
pub mod Runs
mod Signs
