pub mod Bases
pub mod Fronts
pub mod Words
pub mod Asked
