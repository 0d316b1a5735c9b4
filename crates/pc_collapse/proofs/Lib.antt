mod BagMoves
mod DealtFiles
mod FactLists
pub mod FoldedFiles
mod Gathered
mod JoinedFacts
mod KeyConflicts
mod LentParts
mod Members
mod MergedParts
mod PartEntries
mod PointFolds
