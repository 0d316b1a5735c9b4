pub mod SessionSets
