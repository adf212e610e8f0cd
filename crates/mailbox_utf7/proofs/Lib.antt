pub mod ShiftLemmas
pub mod SpellingLemmas
pub mod ReadingLemmas
pub mod DecodingLemmas
