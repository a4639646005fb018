pub mod Parting
pub mod Salvaging
pub mod Saved
pub mod Taking
