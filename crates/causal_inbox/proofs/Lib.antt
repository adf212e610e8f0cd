pub mod Clocks
mod Places
mod AscendingLemmas
mod ReceivedLemmas
pub mod Union
pub mod Closure
pub mod ReleasesLemmas
mod Ordered
mod EntryOrder
mod Beyond
mod CauseIndexLemmas
mod CauseCountLemmas
mod IdNumberLemmas
mod AppendLemmas
mod OwnLemmas
mod Gapless
mod UncoveredLemmas
