-- Exports of changes: their commands, spelled, read and replayed.
pub mod ChangeSteps
pub mod ChangeReplays
pub mod SpelledChanges
pub mod ReadableChanges
