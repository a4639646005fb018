pub mod Paths
pub mod Lines
