pub mod Faults
pub mod Fields
pub mod Lines
pub mod Outcomes
pub mod Reading
pub mod Script
pub mod Transcript
