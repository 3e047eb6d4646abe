pub mod Fields
pub mod Rejections
