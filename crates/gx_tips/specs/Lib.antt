pub mod Spans
pub mod Tips
