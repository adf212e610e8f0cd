pub mod Lists
pub mod Causal
mod OneValue
pub mod Pairs
