pub mod PhaseLaws
mod Agreeing
mod Counting
