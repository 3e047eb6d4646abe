pub mod Evaluated
pub mod NodeLaws
pub mod ValueFaults
