pub mod Coming
pub mod Draws
pub mod Laws
pub mod Places
pub mod Readers
pub mod Refusals
pub mod Sources
