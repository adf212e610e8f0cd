pub mod ModSeqIndexLemmas
