pub mod Cells
pub mod Entries
pub mod ReadOneWay
pub mod Rows
pub mod Tables
pub mod Whole
