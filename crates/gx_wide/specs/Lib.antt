pub mod WideTexts
pub mod WideSound
pub mod WideLaws
pub mod ObjectsTexts
pub mod Placing
pub mod Rows
