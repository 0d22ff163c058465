pub mod NoteFacts
pub mod KeepFacts
pub mod ItemFacts
