pub mod NextItems
pub mod ToldPlaces
