pub mod Devices
pub mod Buffers
pub mod TextFaults
pub mod Idents
pub mod Lent
pub mod TreePaths
pub mod Quoting
