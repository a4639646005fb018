pub mod Faults
pub mod Machine
pub mod Placed
pub mod Places
pub mod Steps
