pub mod Versions
pub mod Verifying
