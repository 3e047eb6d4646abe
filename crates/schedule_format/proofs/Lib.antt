pub mod FileMoments
pub mod Following
pub mod MomentFields
