pub mod Sources
pub mod Sinks
pub mod SliceSource
pub mod SliceSink
pub mod PlainReads
