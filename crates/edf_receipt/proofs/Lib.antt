pub mod DigestFacts
pub mod LineFacts
pub mod RunLineFacts
