mod SweepLaws
mod AnswerLaws
mod PieceLaws
mod InputLaws
pub mod OpenLaws
