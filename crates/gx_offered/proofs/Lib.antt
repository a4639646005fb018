pub mod ReadItems
pub mod ReadOffers
pub mod ReadSources
