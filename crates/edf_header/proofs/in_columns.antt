pub mod ColumnFacts
pub mod NarrowFacts
pub mod ReadColumnsFacts
pub mod WideFacts
pub mod TextSameFacts
