pub mod LineFaults
pub mod Sentences
pub mod Scripts
pub mod Told
pub mod Workloads
pub mod Causes
