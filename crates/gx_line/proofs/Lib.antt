pub mod Weaker
pub mod MadeCommands
pub mod NeededArguments
pub mod Flags
pub mod NoLines
