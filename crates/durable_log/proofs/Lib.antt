pub mod LogLemmas
pub mod DeviceLemmas
pub mod ReplicaLemmas
pub mod CrashLemmas
pub mod LayoutLemmas
