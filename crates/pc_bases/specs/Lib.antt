pub mod Bases
pub mod Lawful
pub mod Layings
pub mod Reading
pub mod RoundTrips
pub mod Texts
