pub mod Heard
pub mod Pulled
pub mod Faults
pub mod Places
pub mod Reading
pub mod Input
pub mod FirstItems
