mod LegacyLaws
mod KeyCounts
mod FewWriteLaws
mod WrittenCounts
mod RoomLaws
mod SmallFiles
mod UntoldLaws
