pub mod JsonLaws
pub mod KeptByteLaws
