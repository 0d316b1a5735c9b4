mod Columns
mod FreeLists
mod CellKeeping
mod Padding
