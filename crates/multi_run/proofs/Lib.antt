mod Running
pub mod Runs
