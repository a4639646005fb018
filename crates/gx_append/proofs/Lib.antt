pub mod Moments
pub mod Pieces
pub mod Readings
mod Shown
mod Staging
mod Steps
