pub mod Answers
pub mod Entries
pub mod Objects
