pub mod CutFieldLaws
pub mod FieldLaws
pub mod KnownBytesLaws
mod Pieces
pub mod PutsLaws
