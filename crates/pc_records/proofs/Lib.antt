mod BlankSlots
mod SlotRising
mod TableSlots
mod InSlots
mod Unlinked
mod Listing
mod KeepingSets
mod EndsKept
mod Marking
mod Settling
mod Leaving
mod Among
mod SidesTurned
mod FirstSlots
mod CommittedPairs
mod Copies
mod SlotKeeping
mod SlotReleasing
mod SlotWaiting
pub mod FollowingLaws
pub mod DistinctLaws
mod Keeping
pub mod ReleaseLaws
mod Rising
pub mod FirstKeyLaws
pub mod CycleLaws
pub mod SetFlagLaws
pub mod WaitingLaws
pub mod OccupiedLaws
pub mod NewKeyLaws
mod Exclusive
mod Lookups
mod Moments
mod FloorLaws
mod FloorMaking
mod FloorTaking
mod FloorTidying
pub mod WrittenKeys
mod SpotLaws
mod SpotTidying
mod SpotWrites
mod SpotAnswers
mod SpotSets
