-- Store files: their texts, and how these are read.
pub mod StoreReading
pub mod StoreText
