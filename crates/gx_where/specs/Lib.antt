pub mod Faults
pub mod Rests
pub mod Places
