pub mod Asks
pub mod Counted
pub mod Further
