pub mod AlikeTexts
pub mod RefsTold
pub mod SameBases
pub mod TakenTexts
pub mod WholeImports
