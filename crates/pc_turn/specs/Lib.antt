pub mod Devices
pub mod Turns
