-- The records that refs reach, and their history.
pub mod ReachableObjects
pub mod PrunedHistories
pub mod PrunedAnswers
