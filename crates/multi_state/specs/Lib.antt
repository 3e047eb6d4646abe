pub mod AllDo
pub mod Does
pub mod Parting
pub mod Progress
pub mod Spending
pub mod Stacks
pub mod Totals
