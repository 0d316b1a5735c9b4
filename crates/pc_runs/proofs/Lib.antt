mod BeginLaws
mod HistoryLaws
pub mod NewPasses
mod CommitLaws
mod DealingLaws
mod FullLogLaws
mod FaultLaws
mod SeatingLaws
mod WorkLaws
mod FolderLaws
mod StopLaws
