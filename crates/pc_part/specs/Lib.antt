pub mod Joins
pub mod Lawful
pub mod Parts
pub mod Reading
pub mod RoundTrips
pub mod Texts
pub mod Unions
