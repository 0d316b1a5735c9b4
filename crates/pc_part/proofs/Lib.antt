mod CompleteParts
mod CoveringRanges
pub mod CutPartLaws
pub mod ItemLaws
mod JoinLemmas
mod JoinedFiles
mod JoinedLists
pub mod LawfulParts
pub mod ListLaws
pub mod LocalSteps
mod Magics
pub mod NextKeyLaws
pub mod PartFileLaws
mod PartTexts
mod PassedTexts
pub mod RangePointLaws
mod RangeUnions
mod RangesOfPoints
pub mod ReadFieldLaws
mod ReadLists
mod ReadParts
pub mod RefusalLaws
pub mod RisingKeyLaws
mod RoundTrips
mod Successes
pub mod TakenTriples
