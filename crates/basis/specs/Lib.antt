pub mod Lists
pub mod Options
pub mod UnlessMemory
pub mod formers
