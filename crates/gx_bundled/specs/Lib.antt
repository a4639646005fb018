pub mod Excluded
pub mod Named
pub mod Rows
