pub mod Prefixes
pub mod Jobs
pub mod Phrases
pub mod Workloads
pub mod Seeing
pub mod Gathering
pub mod Written
pub mod Dealing
