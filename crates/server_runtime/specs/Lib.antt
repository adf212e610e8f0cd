pub mod Calls
pub mod Logins
pub mod PassFiles
pub mod Places
pub mod Totals
pub mod Renames
pub mod ReplicaEnds
