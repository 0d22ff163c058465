pub mod StopFacts
pub mod BeginFacts
