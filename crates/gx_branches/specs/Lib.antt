pub mod Ranks
pub mod Branches
