pub mod Commits
