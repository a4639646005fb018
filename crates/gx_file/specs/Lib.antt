pub mod Faults
pub mod Gathering
pub mod Reading
pub mod Sending
pub mod Texts
pub mod TextEnds
pub mod Wanting
pub mod Writing
