pub mod Kept
pub mod Views
pub mod Calls
pub mod InOrder
pub mod Steps
pub mod Seats
