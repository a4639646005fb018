pub mod MarkLaws
pub mod Marks
pub mod Reading
pub mod Rows
pub mod Sending
pub mod Shown
