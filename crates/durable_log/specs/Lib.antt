pub mod Devices
pub mod Replicas
pub mod Logs
