pub mod Entries
pub mod Lending
pub mod Passing
pub mod Rows
