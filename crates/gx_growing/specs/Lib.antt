pub mod Faults
pub mod GrowingLaws
pub mod GrowingReading
pub mod GrowingRows
pub mod GrowingText
