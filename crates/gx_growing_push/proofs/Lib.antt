pub mod KeptRefs
pub mod LeftPushes
pub mod WholePushes
