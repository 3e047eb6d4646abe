pub mod Callees
pub mod Code
pub mod CodeRun
pub mod EmitterView
pub mod Jumps
pub mod Means
pub mod ScopeView
pub mod Translated
