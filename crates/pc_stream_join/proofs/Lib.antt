mod WritingLaws
mod StandingLaws
mod UnionLaws
mod HeaderLaws
mod FileLaws
mod CauseLaws
mod StepLaws
mod StartLaws
pub mod AgreeLaws
