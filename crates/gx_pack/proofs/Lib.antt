pub mod Pieces
pub mod Checksums
pub mod Blocks
pub mod Numbers
pub mod DataRead
pub mod PacksRead
pub mod BundlesRead
