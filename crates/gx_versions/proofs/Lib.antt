pub mod SentCounts
