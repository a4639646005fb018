pub mod BodyLinks
pub mod Closing
pub mod Entering
pub mod Falling
pub mod Fronts
pub mod Leading
pub mod LinkedRecords
pub mod Stepping
