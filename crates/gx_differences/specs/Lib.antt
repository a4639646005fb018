pub mod Differences
pub mod Listed
