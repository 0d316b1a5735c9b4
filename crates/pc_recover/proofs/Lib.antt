mod ApartFiles
mod JoinedAtOnce
mod EntryReplays
mod Folded
mod Reaching
mod Summing
mod Walking
mod RecoveredFiles
mod RecoveredLogs
mod RecoveredPoints
mod Restarting
pub mod RunsRestartLaws
