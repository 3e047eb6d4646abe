pub mod FirstMaps
pub mod Firsts
pub mod Kept
pub mod Selecting
pub mod Telling
pub mod Told
