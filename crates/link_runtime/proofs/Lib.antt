pub mod BatchLemmas
pub mod HandshakeLemmas
pub mod InputLemmas
pub mod SlotLemmas
pub mod TableLemmas
