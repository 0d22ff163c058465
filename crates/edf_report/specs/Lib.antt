pub mod Reports
pub mod ConformTexts
pub mod ShowTexts
pub mod NotesTexts
pub mod NotesKept
