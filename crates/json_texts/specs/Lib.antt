pub mod Reading
pub mod Shapes
pub mod Texts
