pub mod Names
pub mod Folders
pub mod Searches
pub mod Digits
