pub mod KeyFacts
pub mod StopFacts
