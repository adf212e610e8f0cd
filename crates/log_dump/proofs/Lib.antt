pub mod EntryOrderLemmas
pub mod RestorationLemmas
pub mod LineCountLemmas
pub mod LogDumpLemmas
mod CrashedDumpLemmas
