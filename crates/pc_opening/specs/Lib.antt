pub mod Merging
pub mod Openings
