pub mod Calling
pub mod Copies
pub mod Handles
pub mod Heads
pub mod Places
pub mod Pointers
pub mod ToldBundles
pub mod Walks
