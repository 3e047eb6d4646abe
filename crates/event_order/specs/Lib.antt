pub mod Order
pub mod Standing
pub mod Thin
pub mod Cycle
pub mod Window
pub mod OrderOrCycle
pub mod Laws
