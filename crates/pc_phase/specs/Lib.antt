pub mod Agreement
pub mod Phases
