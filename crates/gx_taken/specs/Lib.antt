pub mod Calls
pub mod Laws
pub mod Parts
pub mod Refusals
pub mod Setting
pub mod Taking
