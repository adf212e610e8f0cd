pub mod CallLemmas
pub mod DeleteLemmas
pub mod EmptyLemmas
pub mod PartLemmas
pub mod ReplyLemmas
pub mod TurnLemmas
