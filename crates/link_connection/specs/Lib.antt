pub mod Received
pub mod ReceivedOps
pub mod Sent
