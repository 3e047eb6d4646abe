mod Completely
mod Soundly
mod DifferenceTests
mod Moments
pub mod HeadFacts
pub mod Wants
pub mod StageFacts
pub mod StandingFacts
