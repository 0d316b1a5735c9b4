pub mod Cells
pub mod SlotLending
