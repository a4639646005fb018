-- Exports of ranges: their commands, spelled, read and replayed.
pub mod ReceivedValues
pub mod RangeSteps
pub mod SentCommits
pub mod CommitRefs
pub mod SetBranches
pub mod RangeReplays
pub mod SpelledRanges
pub mod ReadableRanges
