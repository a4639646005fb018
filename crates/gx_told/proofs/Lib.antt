pub mod Tellings
pub mod Prints
pub mod Pieces
pub mod ArchivedWords
pub mod ShownBodies
pub mod NamedLines
pub mod LoggedLines
pub mod WalkedLines
pub mod CommitLines
pub mod AnsweredLines
pub mod AnsweredRevisions
pub mod AnsweredCommands
pub mod TakenCommits
pub mod WalkedCommits
pub mod FilteredRefs
mod ToldDifferences
mod ToldPatches
