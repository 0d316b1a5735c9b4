pub mod Clients
pub mod Faults
pub mod Files
pub mod Hands
pub mod Logs
pub mod Rested
