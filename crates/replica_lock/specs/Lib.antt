pub mod FetchAnswers
pub mod CompactEntries
pub mod Steps
pub mod StoreRoom
pub mod Histories
pub mod Passes
pub mod JoinedBook
pub mod JournalState
