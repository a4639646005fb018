-- The steps of a replay, and what they keep.
pub mod NullGitlinks
pub mod GivenCommits
pub mod GitlinkSteps
pub mod ProperStates
pub mod HistorySteps
