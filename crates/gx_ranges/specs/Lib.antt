pub mod Answers
pub mod Fronts
pub mod Walks
pub mod Words
pub mod Refs
pub mod Listings
