mod PlacingLaws
mod DistinctKeys
mod ChunkLaws
mod LentWriteLaws
mod LentEntryLaws
mod PieceLaws
