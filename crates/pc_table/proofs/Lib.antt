mod Changing
mod Keeping
pub mod PassingLaws
pub mod RowLaws
mod Seen
