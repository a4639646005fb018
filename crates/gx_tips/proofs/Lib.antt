pub mod Lists
pub mod RefTips
pub mod Places
pub mod SetRefs
pub mod Order
