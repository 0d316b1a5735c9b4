pub mod Changes
pub mod Keepers
pub mod Lines
pub mod States
pub mod Tables
