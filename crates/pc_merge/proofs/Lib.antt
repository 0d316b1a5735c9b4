pub mod DrawingLaws
pub mod GivenLaws
pub mod LeftLaws
pub mod MergeLaws
pub mod NewestLaws
pub mod OrderLaws
pub mod PassingLaws
pub mod PlacesLeft
mod StandingLaws
pub mod TreeLaws
