-- Which annotations are gathered of a file, moved by `ps` picoseconds. These are steps between the definitions and the code.
use Rattle.std.specs.Prelude.{◌≡◌, ℕ, ℤ, List, [], ◌++◌, map, Option, None, Some, option_map, if◌then◌else◌}
use Rattle.edf_pace.specs.Words.{Bor, keeps_annotation, kept_text, ClaimValue, NoteValue, moved_by, moved_notes_in, Reader, is_current, note_value, Note, View}
use Rattle.edf_pace.specs.Kept.{kept_of}

-- an annotation that the claim keeps, as `kept_of` has it
abbrev pub as_kept : ClaimValue → NoteValue → NoteValue
as_kept claim note = record { onset = note.onset; duration = note.duration; text = kept_text claim note.text }

-- the text with which an annotation counts that has this onset and this text, or none where it doesn't count: by this claim, or,
-- where there is none, each as it is
abbrev pub counted_text : Option ClaimValue → ℤ → List ℕ → Option (List ℕ)
counted_text None onset text = Some text
counted_text (Some claim) onset text = if keeps_annotation claim onset text then Some (kept_text claim text) else None

-- what counts of annotations: what this claim makes of them, or, where there is none, all
abbrev pub counted_of : Option ClaimValue → List NoteValue → List NoteValue
counted_of None notes = notes
counted_of (Some claim) notes = kept_of claim notes

-- which annotations are gathered: what counts of them, moved
abbrev pub gathered_of : Option ClaimValue → ℤ → List NoteValue → List NoteValue
gathered_of claim ps notes = counted_of claim (map (moved_by ps) notes)

abbrev pub claim_of : View → Option ClaimValue
claim_of view = option_map (λ claim. claim.now) view.claim

-- what counts of these annotations came to those that were gathered
abbrev pub AreAdded : List Note → List Note → Option (Bor ClaimValue) → ℤ → List NoteValue → Type 0
AreAdded old new claim ps notes = map note_value new ≡ map note_value old ++ gathered_of (option_map (λ c. c.now) claim) ps notes

-- the annotations of the data record at hand, if there is one, that are gathered
abbrev pub gathered_in : Option ClaimValue → ℤ → Reader → List NoteValue
gathered_in claim ps r = if is_current r.status then gathered_of claim ps (moved_notes_in r.head r.current) else []

abbrev pub gathered_by : View → Reader → List NoteValue
gathered_by view r = gathered_in (claim_of view) (view.moved).ps r
