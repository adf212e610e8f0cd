pub mod FrontRequests
pub mod ShownReplies
pub mod Handling
pub mod TakingSteps
pub mod ItemConversations
pub mod Conversations
pub mod TaggedLines
