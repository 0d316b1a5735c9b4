pub mod Texts
pub mod Orders
pub mod Reading
pub mod Plain
pub mod Laws
