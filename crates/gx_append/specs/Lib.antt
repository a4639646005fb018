pub mod Appending
pub mod Devices
