pub mod NumberTexts
pub mod LineFronts
