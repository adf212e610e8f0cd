pub mod Edges
pub mod ModSeqIndex
