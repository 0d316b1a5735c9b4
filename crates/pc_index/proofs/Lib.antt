mod Beginning
mod Finding
pub mod IndexLaws
mod Linked
mod Making
mod Places
mod Removing
mod Texts
