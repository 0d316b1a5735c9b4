pub mod Calls
pub mod Passes
pub mod Laws
pub mod Rules
