pub mod LoggingLaws
pub mod BoardCalls
mod ClientJobs
mod Cycling
mod FullLaws
mod ShownLaws
mod Taking
pub mod WholeCycles
mod Holding
pub mod CoverLaws
mod WaitLaws
mod OpenLaws
mod AskedLaws
pub mod AttemptLaws
mod BeginLaws
pub mod RunLaws
