pub mod Built
pub mod Links
pub mod Mirrors
pub mod Numbers
pub mod Shows
