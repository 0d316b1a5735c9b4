pub mod Firsts
pub mod Heads
pub mod Kept
pub mod Passes
pub mod Sides
pub mod Takings
