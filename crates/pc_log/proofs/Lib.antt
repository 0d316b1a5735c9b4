pub mod StepLaws
pub mod ChangeTexts
mod Loops
mod CommitTexts
pub mod TurnLaws
pub mod TokenOrders
mod EntryTexts
pub mod EntriesAgain
pub mod PlainTextLaws
mod LogTexts
pub mod CutTextLaws
mod LawfulWrites
pub mod LawfulLogLaws
