pub mod Answers
pub mod Commands
pub mod Options
pub mod Replies
pub mod Times
pub mod Workloads
