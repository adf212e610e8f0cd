mod BetweenOthersLemmas
mod BatchLemmas
pub mod CarryLemmas
pub mod ConversationsLemmas
mod DumpLemmas
mod EndLemmas
pub mod FaultLemmas
pub mod OtherStepsLemmas
pub mod NodeEndLemmas
mod NodePortLemmas
pub mod NodeTalkLemmas
mod PlaceLemmas
mod PrintableLemmas
mod ReplyLemmas
pub mod RequestLemmas
pub mod StreamLemmas
pub mod TalkLemmas
pub mod TurnLemmas
pub mod WireLemmas
