pub mod EntryOrder
pub mod LogDumps
pub mod Restoration
pub mod Output
