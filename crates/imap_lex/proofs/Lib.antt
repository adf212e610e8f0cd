pub mod CutLemmas
pub mod FrameLemmas
pub mod LineLemmas
pub mod MarkLemmas
pub mod ReadLemmas
pub mod RunLemmas
pub mod StepLemmas
