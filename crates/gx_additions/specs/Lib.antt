pub mod Additions
pub mod Faults
pub mod Merging
pub mod NewObjects
pub mod Parts
