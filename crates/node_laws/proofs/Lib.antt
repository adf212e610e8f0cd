pub mod ByNumberLemmas
mod IdLemmas
mod CopyLemmas
mod ReplyLemmas
mod UnionLemmas
