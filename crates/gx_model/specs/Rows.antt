-- Worked rows: what the definitions give for texts that are spelled out. Each holds by computing.
pub mod ChangesRows
pub mod CommandShapeRows
pub mod ExportRows
pub mod FeatureRows
pub mod HeadlineRows
pub mod ImportRows
pub mod PruningRows
pub mod RefusalRows
pub mod RevisionRows
pub mod RowTexts
pub mod StoreRows
pub mod HeaderRows
pub mod StreamRows
