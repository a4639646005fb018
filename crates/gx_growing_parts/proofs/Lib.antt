pub mod CutTables
pub mod DigitPairs
pub mod Digesters
pub mod PageDigests
mod Zeros
