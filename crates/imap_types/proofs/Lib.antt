pub mod DateTimeLemmas
pub mod EscapeLemmas
pub mod KeywordLemmas
pub mod NumbersLemmas
pub mod Pictures
pub mod WordLemmas
pub mod UnionLemmas
