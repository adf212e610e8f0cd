pub mod Pieces
pub mod ListingEntries
pub mod EntryTables
pub mod ChangedEntries
pub mod ListedMessage
pub mod RowViews
pub mod MessageData
pub mod Windows
