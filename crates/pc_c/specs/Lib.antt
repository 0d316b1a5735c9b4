pub mod Held
pub mod Handles
