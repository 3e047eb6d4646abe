pub mod Bytes
pub mod Contents
pub mod Feeds
pub mod Places
pub mod Scans
pub mod Sizes
pub mod Spelled
pub mod WordTests
