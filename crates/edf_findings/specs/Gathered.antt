-- Which annotations are gathered while somebody looks on.
use Rattle.std.specs.Prelude.{◌≡◌, ◌&&◌, ◌||◌, ℕ, ℤ, not, Bool, List, [], ◌∷◌, if◌then◌else◌}
use Rattle.edf_claim.specs.Keeps.{keeps_annotation, keeps_instant}
use Rattle.edf_claim.specs.KeepsReading.{blanks}
use Rattle.edf_claim.specs.ClaimValues.{ClaimValue}
use Rattle.edf_stream.specs.annotation.Notes.{NoteValue}
use Rattle.edf_stream.specs.annotation.NotesReading.{notes_in}
use Rattle.edf_stream.specs.records.Readers.{Reader}
use Rattle.edf_findings.specs.declared.looker.Looker.{Looker}
use Rattle.edf_findings.specs.declared.notes.both.Notes.{Notes}
use Rattle.edf_findings.specs.Times.{is_another}

-- none is there
pub record HaveNone (notes : Notes) : Type 0 where
  pub kept : notes.kept.items ≡ []
  pub hidden : notes.hidden.items ≡ []
  pub exported : notes.exported.items ≡ []

-- an annotation in a kept interval is removed, or its text blanked
abbrev pub is_hidden : ClaimValue → ℤ → List ℕ → Bool
is_hidden claim onset text = keeps_instant claim onset 1 && (not (keeps_annotation claim onset text) || blanks claim text)

-- the texts of those of these annotations
abbrev pub hidden_texts : ClaimValue → List NoteValue → List (List ℕ)
hidden_texts claim [] = []
hidden_texts claim (note ∷ notes) = if is_hidden claim note.onset note.text then note.text ∷ hidden_texts claim notes else hidden_texts claim notes

-- the hidden texts of the data record of the original at hand, where they are wanted and it is another one than before
abbrev pub hidden_at : Looker → ClaimValue → Reader → List (List ℕ)
hidden_at looker claim r = if looker.wants_hidden && is_another looker.originals.read r then hidden_texts claim (notes_in r.head r.current) else []
