pub mod MatchesLemmas
pub mod WordLemmas
