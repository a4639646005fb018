pub mod GatheredRows
pub mod JoinedRows
pub mod LaidOut
pub mod RisingRows
pub mod SortedRows
