pub mod Ends
pub mod ItemFaults
pub mod Items
pub mod Offers
pub mod Sources
