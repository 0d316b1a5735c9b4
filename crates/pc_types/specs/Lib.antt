pub mod Limits
pub mod Names
pub mod Phases
pub mod Bytes
pub mod Heads
pub mod Changes
pub mod Keys
pub mod KeyHashes
