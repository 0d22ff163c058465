pub mod Notes
pub mod NotesReading
pub mod Keeping
pub mod OwnTexts
