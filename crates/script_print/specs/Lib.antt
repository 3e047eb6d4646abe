pub mod Laws
pub mod Pieces
pub mod Placeless
pub mod Prints
pub mod TreePrints
