pub mod Acts
pub mod Answering
pub mod Runs
