mod ConductRows
mod CostRows
mod HitRows
mod LongRows
pub mod Programs
mod RuleRows
pub mod ValueFaults
