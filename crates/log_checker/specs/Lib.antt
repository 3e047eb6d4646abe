pub mod Counting
pub mod Entries
pub mod EntryFaults
pub mod Faults
pub mod Finds
pub mod Grouping
pub mod LogObjects
pub mod OpMaps
