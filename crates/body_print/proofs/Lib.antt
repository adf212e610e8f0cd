pub mod BoundLemmas
pub mod NodeLemmas
pub mod ReadBackLemmas
pub mod TextLemmas
