pub mod Dumps
pub mod Loads
pub mod PointDumps
