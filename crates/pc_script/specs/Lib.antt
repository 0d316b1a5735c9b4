pub mod Holding
pub mod Runs
pub mod Scripts
pub mod Views
