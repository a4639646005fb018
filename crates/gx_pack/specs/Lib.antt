pub mod Zlib
pub mod Packs
pub mod PackReading
pub mod Bundles
pub mod BundleReading
pub mod PackLaws
pub mod Writing
pub mod Rows
