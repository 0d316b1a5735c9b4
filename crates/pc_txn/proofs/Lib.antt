mod Orders
mod Written
mod Noting
mod Filing
