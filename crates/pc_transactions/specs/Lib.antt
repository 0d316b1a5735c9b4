pub mod Actives
pub mod Sessions
pub mod Counts
pub mod InPlace
pub mod Ongoing
pub mod Adds
