pub mod Ends
pub mod FewEntries
pub mod Headed
pub mod JoinedParts
pub mod KeyCounts
pub mod ReadFiles
pub mod ReadLaws
pub mod WrittenJoins
