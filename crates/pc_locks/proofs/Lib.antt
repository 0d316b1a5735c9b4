mod Columns
mod Grants
mod Growing
pub mod KeeperLaws
mod LineLemmas
mod ListLemmas
mod LocksLemmas
mod Outcomes
mod QueueLines
mod RemovalLemmas
mod RowAnswers
mod RowLaws
pub mod SlotLaws
mod Soundness
pub mod StateLaws
mod TableLemmas
pub mod Turns
mod Upgrades
mod Walks
