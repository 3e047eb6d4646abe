pub mod IdTables
pub mod OperationTables
