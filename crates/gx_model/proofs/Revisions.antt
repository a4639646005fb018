-- Revisions: what they give, and what names commits.
pub mod ShownValues
pub mod Marking
pub mod Bases
pub mod NamedByDigits
