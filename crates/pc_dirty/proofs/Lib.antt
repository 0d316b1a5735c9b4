pub mod SetLaws
mod Changing
