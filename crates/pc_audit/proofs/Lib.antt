pub mod RightFiles
mod TableLemmas
