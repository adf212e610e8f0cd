pub mod ListsLemmas
pub mod ReadingLemmas
pub mod CountLemmas
pub mod RoundTrips
pub mod ListRoundTrips
pub mod ItemRoundTrips
pub mod AnswerRoundTrips
pub mod LineLemmas
