-- What is gathered of one data record more.
use Rattle.std.proofs.Common.{◌≡◌, ℤ, ◌+ℤ◌, Bool, true, false, List, ◌++◌, map, Option, None, Some, IfNone, IsTrue, refl, sym, ap, ◌∙◌}
use Rattle.std.proofs.lemmas.List.{append-nil}
use Rattle.edf_claim.specs.ClaimValues.{ClaimValue}
use Rattle.edf_fields.specs.declared.faults.fault.Fault.{Fault}
use Rattle.edf_stream.specs.annotation.Notes.{NoteValue}
use Rattle.edf_stream.specs.annotation.NotesReading.{notes_in}
use Rattle.edf_stream.specs.records.Readers.{Reader, is_current}
use Rattle.edf_stream.specs.times.Starts.{file_start}
use Rattle.edf_stream.specs.Views.{note_value}
use Rattle.edf_pace.specs.declared.walk.gather.Gathering.{Gathering}
use Rattle.edf_pace.specs.walk.Gathered.{gathered_of, gathered_in}
use Rattle.edf_pace.specs.walk.Keepers.{GotCounted, terms_in}
use Rattle.edf_pace.proofs.walk.PassFacts.{gathered_here, gathered_nothing}

-- where a data record came, it was given; where the file has ended, nothing was
pub gathered-more : (claim : Option ClaimValue) (ps : ℤ) (r : Reader) (before after : Gathering) → terms_in before ≡ claim → before.by.ps ≡ file_start r.head +ℤ ps → IsTrue after.whole
    → (is_current r.status ≡ true → GotCounted before (notes_in r.head r.current) after) → (is_current r.status ≡ false → after ≡ before)
    → map note_value after.notes.items ≡ map note_value before.notes.items ++ gathered_in claim ps r
gathered-more claim ps r before after view by whole came ended = go (is_current r.status) refl
  where
    had : List NoteValue
    had = map note_value before.notes.items

    go : (current : Bool) → is_current r.status ≡ current → map note_value after.notes.items ≡ had ++ gathered_in claim ps r
    go true e =
        ((came e).kept whole).1 ∙ ap (λ c. had ++ gathered_of c before.by.ps (notes_in r.head r.current)) view
        ∙ ap (λ by. had ++ gathered_of claim by (notes_in r.head r.current)) by ∙ ap (λ more. had ++ more) (sym (gathered_here claim ps r e))
    go false e =
        ap (λ (g : Gathering). map note_value g.notes.items) (ended e) ∙ sym (append-nil had) ∙ ap (λ more. had ++ more) (sym (gathered_nothing claim ps r e))

-- what holds where there is no fault
pub where-none : (found : Option Fault) (A : Type 0) → found ≡ None → IfNone found A → A
where-none None A none a = a
where-none (Some fault) A none a = absurd (let f : Some fault ≡ None = none in cc)
