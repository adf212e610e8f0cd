pub mod BoundaryLemmas
pub mod CompositionLemmas
pub mod CuttingLemmas
pub mod DelimiterLemmas
pub mod LineLemmas
pub mod NestingLemmas
pub mod OneCuttingLemmas
