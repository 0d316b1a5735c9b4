pub mod Words
pub mod Slots
pub mod Spares
