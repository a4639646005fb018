pub mod Tests
pub mod Given
pub mod Behind
pub mod MetWalks
pub mod Read
pub mod Answered
