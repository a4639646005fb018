pub mod Grown
pub mod Sending
