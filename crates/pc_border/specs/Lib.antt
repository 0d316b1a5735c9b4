pub mod Sources
pub mod Openings
pub mod Stores
pub mod Handled
