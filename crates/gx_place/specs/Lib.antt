pub mod Calls
pub mod Modes
pub mod Narrowing
pub mod Permissions
pub mod Putting
pub mod Turns
