pub mod StrideFacts
pub mod NumberFacts
pub mod HeadFacts
