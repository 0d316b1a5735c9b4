pub mod Laying
pub mod Trees
pub mod Changes
pub mod Audits
