pub mod Staged
pub mod Progress
pub mod CommandBlobs
