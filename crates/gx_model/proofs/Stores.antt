-- The text of a store: its lines, records and refs.
pub mod StoreTexts
pub mod RecordLines
pub mod StoredRecords
pub mod StoredRefs
pub mod ReadStores
pub mod OneStore
