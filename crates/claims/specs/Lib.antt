pub mod Inside
pub mod Lists
pub mod Rule
pub mod Seats
pub mod Steps
pub mod Views
pub mod Workers
