pub mod Bases
pub mod Lacks
pub mod Recoveries
pub mod Reports
