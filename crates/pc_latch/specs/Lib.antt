pub mod Asked
pub mod Cycles
pub mod Tickets
pub mod Batches
