pub mod Asking
pub mod Entering
