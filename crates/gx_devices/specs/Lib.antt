pub mod Namers
