pub mod Keys
pub mod Subscriptions
pub mod Entries
pub mod Table
pub mod Laws
