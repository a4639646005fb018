pub mod Heads
pub mod Bodies
pub mod Patches
