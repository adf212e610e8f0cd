mod MessageLemmas
mod PieceLemmas
mod SourceLemmas
mod ReceivedOpsLemmas
mod SendLemmas
