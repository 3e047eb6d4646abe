pub mod AuditWords
pub mod Commands
pub mod NamesView
pub mod RecordWords
pub mod Words
pub mod WordsApp
