pub mod BaseNames
pub mod OfWhole
pub mod HeldEntries
pub mod RefsOf
