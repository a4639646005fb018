pub mod RankedFronts
pub mod Tips
pub mod Found
pub mod Told
