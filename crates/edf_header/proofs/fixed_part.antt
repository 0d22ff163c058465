pub mod FixedFacts
pub mod StartdateFacts
