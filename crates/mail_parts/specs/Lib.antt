pub mod Compositions
pub mod ContentTypes
pub mod Cuttings
pub mod Delimiters
pub mod Entries
pub mod Nesting
pub mod PartTrees
pub mod Reading
