pub mod LinkLemmas
pub mod NameLemmas
pub mod NumberLemmas
pub mod OptionLemmas
pub mod PlaceLemmas
pub mod TextLemmas
pub mod WordLemmas
