pub mod Counted
pub mod FieldForms
pub mod Fields
pub mod Tallies
