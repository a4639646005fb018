pub mod Lines
pub mod Changes
pub mod Hunks
pub mod Patches
pub mod Telling
