pub mod Some
mod Told
mod Files
mod Putting
