pub mod Headers
pub mod Joining
pub mod Steps
pub mod Writing
