pub mod Sending
mod Marks
mod SentBlobs
mod SentLines
