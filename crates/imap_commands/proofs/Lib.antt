pub mod ListedKeywordLemmas
mod Examples
pub mod KeywordSteps
pub mod LawfulLemmas
pub mod NameLemmas
pub mod FlagChangeLemmas
pub mod FlagSetLemmas
pub mod IssuedLemmas
pub mod NamedLemmas
pub mod PlaceLemmas
pub mod RangeLemmas
pub mod PrintSelectLemmas
pub mod PrintViews
pub mod PrintFetchLemmas
pub mod PrintStoreLemmas
pub mod PrintSyncLemmas
pub mod PrintReportLemmas
pub mod PrintSearchLemmas
pub mod PrintCopyLemmas
pub mod PrintTaggedLemmas
mod StoreExamples
pub mod SeenLemmas
pub mod GoneLemmas
pub mod RuleLemmas
pub mod ReportLemmas
