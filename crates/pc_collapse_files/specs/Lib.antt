pub mod Collapses
pub mod Inputs
pub mod Reads
