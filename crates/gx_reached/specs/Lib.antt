pub mod Damages
pub mod Links
pub mod Reaching
