mod RangeLemmas
pub mod SentLaws
pub mod StatePairLaws
pub mod Begun
pub mod OutputLaws
mod Fronts
