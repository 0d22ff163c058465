pub mod HandFacts
pub mod SpotFacts
pub mod CountFacts
pub mod CountedFacts
