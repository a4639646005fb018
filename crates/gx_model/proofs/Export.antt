-- Exports: their commands, spelled, read and replayed.
pub mod CommitSteps
pub mod KeptCommits
pub mod PublishedRefs
pub mod ReachedValues
pub mod ExportSteps
pub mod SpelledExports
pub mod ReadableExports
pub mod FirstNulls
pub mod ExportItems
pub mod BeforeNulls
pub mod RefusedCommits
pub mod RefusedExports
