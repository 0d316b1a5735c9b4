pub mod Orders
pub mod Sets
pub mod Commits
pub mod Notes
