pub mod SentGrowing
pub mod SentParts
pub mod Whole
