mod Histories
mod Passing
mod Sums
mod Steps
mod Seats
mod Ends
