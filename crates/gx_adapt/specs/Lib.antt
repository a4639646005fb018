pub mod AdaptFaults
pub mod Paths
pub mod Lines
pub mod Marks
pub mod Streams
pub mod Laws
pub mod Adapting
pub mod Rows
