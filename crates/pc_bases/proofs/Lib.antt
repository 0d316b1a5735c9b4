pub mod BaseFileLaws
mod BaseTexts
pub mod CutBaseLaws
pub mod GapLaws
mod LaidLists
mod Magics
mod PassedItems
mod ReadPairs
mod RoundTrips
mod Successes
