pub mod Accepted
pub mod Drafts
pub mod Walks
