pub mod ShelfFiles
pub mod Uses
