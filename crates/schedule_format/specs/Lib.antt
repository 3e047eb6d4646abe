pub mod Moments
pub mod ScheduleFiles
