pub mod Growing
pub mod Held
pub mod Listing
pub mod Plain
pub mod Reading
pub mod Records
pub mod Refs
pub mod Starts
