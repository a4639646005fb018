-- Texts: cuts, numbers, digits, identities, paths, and maps by texts.
pub mod Cuts
pub mod Decimals
pub mod Idents
pub mod LineTexts
pub mod HeaderTexts
pub mod AloneHeaders
pub mod PathTexts
pub mod Quotes
pub mod SentTexts
pub mod PathTests
pub mod HexDigits
pub mod PlainTexts
pub mod LowerDigits
pub mod TextMaps
