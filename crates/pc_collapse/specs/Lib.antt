pub mod Bags
pub mod Laws
pub mod Merges
pub mod Pieces
pub mod Rounds
pub mod Worth
