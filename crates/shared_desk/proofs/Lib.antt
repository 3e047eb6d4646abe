pub mod Histories
pub mod Sums
pub mod Parts
pub mod Turning
pub mod Seating
pub mod Told
pub mod Sends
pub mod Permuted
