pub mod RecordFacts
pub mod PlaceFacts
pub mod ReadFacts
pub mod StopFacts
pub mod SaidFacts
pub mod SignalFacts
