pub mod Filters
pub mod Patterns
pub mod Steps
