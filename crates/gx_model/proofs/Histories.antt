-- Histories: file maps, their edits, values, and what is added to them.
pub mod FileMapEdits
pub mod FoundFiles
pub mod EditMeanings
pub mod SameValues
pub mod PathOrder
pub mod PathRuns
pub mod SameFileMaps
pub mod ReachedCommits
pub mod SubMaps
pub mod AddedValues
pub mod ChangedFiles
