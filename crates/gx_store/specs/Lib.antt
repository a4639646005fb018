pub mod Stores
pub mod Prefixes
pub mod Bodies
pub mod Objects
pub mod NameOrder
pub mod Chains
pub mod StoreFaults
pub mod Marked
