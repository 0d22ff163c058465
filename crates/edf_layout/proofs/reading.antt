pub mod GatheredFacts
pub mod RisingFacts
pub mod BodyFacts
pub mod KeptFacts
pub mod StopFacts
pub mod HeadFacts
pub mod CutFacts
