-- The bodies of objects: their parts are read back, and trees are canonical.
pub mod TreeBodies
pub mod EntryTexts
pub mod OneTree
pub mod BodiesReadBack
pub mod SortedKeys
pub mod CanonicalTrees
pub mod RebuiltValues
pub mod TreePaths
pub mod TagBodies
pub mod BodyTests
pub mod NamedMaps
pub mod NameDigits
