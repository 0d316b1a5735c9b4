pub mod Rules
pub mod Seats
pub mod Noted
