pub mod Counts
pub mod Journals
pub mod BlockLemmas
pub mod HistoryLemmas
pub mod JoinLemmas
pub mod RoomLemmas
pub mod ThreadLemmas
