-- Streams: their items and their commands. Source: git-fast-import(1), "INPUT FORMAT".
pub mod CommandShapes
pub mod Commands
pub mod Gitlinks
pub mod Grammar
pub mod Items
pub mod LineShapes
pub mod Lines
pub mod Spelling
