pub mod KeptRefs
pub mod Losses
pub mod Refusals
pub mod SavedBytes
pub mod SavedRefs
pub mod Settling
pub mod TakenOver
pub mod Visits
