pub mod MapLaws
pub mod SetLaws
pub mod PairMapLaws
pub mod PlaceLaws
pub mod JoinLaws
pub mod RisingLaws
pub mod SearchLaws
pub mod MergeItemLaws
pub mod MergeLaws
pub mod CountLaws
pub mod KeyTreeLaws
mod Queues
pub mod Ample
pub mod EffectCases
pub mod EffectLaws
mod CertainReplies
pub mod LogLaws
pub mod RightReadLaws
mod States
pub mod LogPieceLaws
pub mod TouchedKeyLaws
pub mod LegalEffectLaws
mod Tokens
pub mod StandingLaws
mod QuietContents
pub mod PointStateLaws
mod Latest
pub mod ContentLaws
mod TakenValues
pub mod ShelfFileLaws
pub mod QueueLaws
mod Holding
pub mod WrittenKeyLaws
pub mod DistinctWriteLaws
pub mod ChangeLaws
pub mod AddLaws
mod SessionLocks
pub mod LegalQueueLaws
pub mod OccupiedKeyLaws
pub mod BeginningLaws
pub mod OwnCallLaws
pub mod ReplyKindLaws
pub mod SessionCallLaws
pub mod ReceiptLaws
pub mod FileNumberLaws
pub mod TripleCounts
pub mod LogLimits
