pub mod Alike
pub mod Importing
