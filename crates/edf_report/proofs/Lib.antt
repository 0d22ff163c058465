pub mod ReportFacts
pub mod NotesFacts
