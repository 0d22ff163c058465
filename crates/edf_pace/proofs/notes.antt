pub mod NoteFacts
pub mod RearrangedFacts
pub mod NoteOrderFacts
pub mod OnlyInOneFacts
