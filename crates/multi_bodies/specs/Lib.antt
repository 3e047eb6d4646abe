pub mod BodiesOf
pub mod Printing
