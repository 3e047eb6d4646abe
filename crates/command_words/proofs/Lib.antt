mod OneName
pub mod RecordWordsRead
mod Taken
mod WordsRead
