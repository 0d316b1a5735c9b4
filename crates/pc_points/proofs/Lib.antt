mod EntrySteps
mod PointSteps
mod WholeLogs
