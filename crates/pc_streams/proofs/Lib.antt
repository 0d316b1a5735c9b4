pub mod ComingLaws
pub mod LawfulNext
mod NextGiven
mod NumberLocal
mod OfText
pub mod PartsComeLaws
mod ReadPieces
mod Shrinking
mod Spared
