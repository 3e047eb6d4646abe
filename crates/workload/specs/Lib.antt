pub mod FaultTexts
pub mod Files
pub mod Jobs
pub mod OneByOne
pub mod Seats
