pub mod Requests
pub mod Points
pub mod Serving
pub mod Sweeps
pub mod Inputs
pub mod OpenSessions
