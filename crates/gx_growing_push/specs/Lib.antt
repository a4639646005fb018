pub mod Pushing
pub mod Settling
pub mod Wanting
