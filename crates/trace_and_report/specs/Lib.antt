pub mod Draft
pub mod Grouped
pub mod Journaled
pub mod Recorded
pub mod Widths
pub mod Written
