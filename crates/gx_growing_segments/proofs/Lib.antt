pub mod Steps
pub mod Ends
pub mod Placed
pub mod Counted
pub mod CheckedRefs
pub mod Ahead
