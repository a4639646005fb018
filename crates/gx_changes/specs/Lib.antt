pub mod Commits
pub mod Faults
pub mod Sayable
pub mod Sending
pub mod Texts
