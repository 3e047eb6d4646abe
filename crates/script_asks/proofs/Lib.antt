pub mod Asked
pub mod Wanted
pub mod RunsFurther
pub mod Operations
pub mod Sound
pub mod Tables
pub mod Valid
pub mod Values
