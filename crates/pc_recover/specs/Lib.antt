pub mod Recovery
pub mod Reach
pub mod Folding
pub mod Replaying
pub mod Restarts
pub mod Runs
