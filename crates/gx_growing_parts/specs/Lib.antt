pub mod Endings
pub mod Placing
pub mod Shown
pub mod Tables
