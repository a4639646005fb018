pub mod Leading
pub mod Fronts
pub mod Stepping
pub mod Held
pub mod Kept
pub mod Filtered
pub mod Named
