pub mod FileReaders
pub mod Files
pub mod Readers
pub mod Recorded
pub mod RecordsView
pub mod Spellings
pub mod ValueReadings
