pub mod MergedRefs
pub mod NewRecords
