pub mod Logs
pub mod LentChanges
pub mod LentWrites
pub mod Placing
pub mod Chunks
pub mod Pieces
