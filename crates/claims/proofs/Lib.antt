pub mod Ends
pub mod Gathering
pub mod Keeps
pub mod Known
pub mod Leasts
pub mod Rising
