pub mod Texts
pub mod FileNames
pub mod Files
pub mod Outputs
