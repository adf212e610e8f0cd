pub mod AnswerLemmas
pub mod LiteralLemmas
pub mod ReplyLemmas
pub mod WordLemmas
pub mod WorkloadLemmas
