pub mod Bodies
pub mod Envelopes
pub mod FieldTexts
pub mod PartNodes
pub mod ReadBack
pub mod Values
