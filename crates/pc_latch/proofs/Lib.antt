pub mod CycleLaws
mod Asking
mod Batching
mod Calling
mod Growing
mod Passing
mod Worths
pub mod OwnReading
