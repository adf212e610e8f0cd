pub mod CivilLemmas
pub mod LineLemmas
pub mod PartLemmas
pub mod PlaceLemmas
pub mod WordLemmas
pub mod FieldLemmas
