pub mod Acts
pub mod Turns
pub mod Services
pub mod Files
pub mod Inputs
pub mod Answered
pub mod Generations
