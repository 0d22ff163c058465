pub mod NoteOrder
pub mod OnlyInOne
