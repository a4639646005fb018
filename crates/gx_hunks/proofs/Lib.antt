pub mod Ranges
pub mod Leading
pub mod Closing
pub mod Fronts
pub mod TextLines
pub mod Grouped
pub mod Patching
pub mod Told
