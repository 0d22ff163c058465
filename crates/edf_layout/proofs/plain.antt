pub mod NumberFacts
pub mod HeaderFacts
pub mod LawFacts
pub mod DigitFacts
