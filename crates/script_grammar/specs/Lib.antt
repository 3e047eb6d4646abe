pub mod Files
pub mod Grammar
pub mod Grouping
pub mod Machine
pub mod Spelling
