pub mod Faults
pub mod Lines
pub mod Wants
pub mod Forward
pub mod Pushes
pub mod Settings
pub mod Calls
