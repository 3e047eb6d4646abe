pub mod Alike
mod Allowed
pub mod Drafts
pub mod Files
pub mod Groupings
pub mod Groups
pub mod Reports
pub mod TraceFollows
pub mod TraceLimits
mod Values
mod Writings
