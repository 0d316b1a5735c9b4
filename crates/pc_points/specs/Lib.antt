pub mod Folders
pub mod Laws
pub mod Points
