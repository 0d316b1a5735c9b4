mod Noted
mod SessionLemmas
mod Foretelling
pub mod PlacedWrites
pub mod Together
mod Counted
pub mod HeldBack
mod OngoingLaws
