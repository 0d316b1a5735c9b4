pub mod Outcomes
pub mod Leaving
