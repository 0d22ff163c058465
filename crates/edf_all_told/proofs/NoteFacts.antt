-- The annotation that a verdict names is the first of its kind that is found.
use Rattle.std.proofs.Common.{◌≡◌, ℕ, Bool, true, List, [], ◌∷◌, map, Option, None, Some, option_and_then, slice_get, if◌then◌else◌, refl, sym, ap, ◌∙◌, subst, arith}
use Rattle.std.proofs.lemmas.List.{append-nil}
use Rattle.std.proofs.lemmas.List.Sorted.{sum_by-IsPermutation}
use Rattle.std.specs.List.Sorted.{IsPermutation}
use Rattle.std.specs.Ordering.{is_eq}
use Rattle.edf_check.specs.KeptReading.{exported_notes, kept_notes}
use Rattle.edf_check.specs.parts.Parts.{exported_by_all}
use Rattle.edf_check.specs.parts.PartsVerdicts.{IsVerdictOnParts}
use Rattle.edf_claim.specs.ClaimValues.{ClaimValue}
use Rattle.edf_pace.specs.Annotations.{IsFirstNote, IsMore, note_cmp, times}
use Rattle.edf_pace.specs.declared.notes.only_in_one.OnlyInOne.{OnlyInOne}
use Rattle.edf_pace.specs.notes.NoteOrder.{NoteMismatch, first_unequal_of}
use Rattle.edf_pace.specs.notes.OnlyInOne.{ArePlacesOf, first_note, is_extra, is_missing, said_at, said_of, unequals_of}
use Rattle.edf_pace.proofs.ForCallers.{Answer, counted, first_is_first, more-with, one-note}
use Rattle.edf_stream.specs.Views.{note_value}
use Rattle.edf_stream.specs.annotation.Notes.{NoteValue}
use Rattle.edf_stream.specs.declared.annotation.notes.Note.{Note}
use Rattle.edf_verdict.specs.declared.verdict.AnnotationMismatch.{AnnotationMismatch}
use Rattle.edf_verdict.specs.declared.verdict.AnnotationMismatch.TheVariants.{Missing, Extra}
use Rattle.edf_findings.specs.declared.findings.Findings.{Findings}
use Rattle.edf_findings.proofs.ForCallers.{notes_of_all}
use Rattle.edf_all_told.specs.Laws.{AreFoundInSeveral, AreListed, FirstNoteIsTold, FirstNoteIsToldOfSeveral, first_said}
use Rattle.edf_all_told.proofs.ToldFacts.{of_one}

-- ---- a verdict's annotation, in another order

as-often : (xs ys : List NoteValue) → IsPermutation xs ys → (n : NoteValue) → times ys n ≡ times xs n
as-often xs ys p n = sum_by-IsPermutation (λ other. if is_eq (note_cmp other n) then 1 else 0) xs ys p

moved : (xs ys zs ws : List NoteValue) (m : AnnotationMismatch) (n : NoteValue) → IsPermutation xs zs → IsPermutation ys ws → IsFirstNote xs ys m n → IsFirstNote zs ws m n
moved xs ys zs ws m n p q first =
    let a = as-often xs zs p n in
    let b = as-often ys ws q n in
    record {
      differ = more-with m (times xs n) (times ys n) 0 (times zs n) (times ws n) (omega (arith, a)) (omega (arith, b)) first.differ;
      least = λ other less. as-often xs zs p other ∙ first.least other less ∙ sym (as-often ys ws q other);
    }

none-more : (m : AnnotationMismatch) (a b : ℕ) → a ≡ b → IsMore m a b → ⊥
none-more Missing a b same more = absurd (omega (arith, same, more))
none-more Extra a b same more = absurd (omega (arith, same, more))

-- ---- the first of some

first-there : (ds : List NoteMismatch) (d : NoteMismatch) → first_note ds ≡ Some d → (rest : List NoteMismatch) × (ds ≡ d ∷ rest)
first-there [] d e = absurd (let z : None ≡ Some d = e in cc)
first-there (x ∷ xs) d e = (xs, ap (λ z. z ∷ xs) (let z : Some x ≡ Some d = e in cc))

kind-of : AnnotationMismatch → AnnotationMismatch → Bool
kind-of Missing = is_missing
kind-of Extra = is_extra

said-first : (is : AnnotationMismatch → Bool) (d : NoteMismatch) (rest : List NoteMismatch) → is d.mismatch ≡ true → said_of is (d ∷ rest) ≡ Some d.note ∷ said_of is rest
said-first is d rest e = rw e refl

-- the first place of a kind says the first of them
place-first : (notes : List Note) (places : List ℕ) (n : NoteValue) (more : List (Option NoteValue)) → map (said_at notes) places ≡ Some n ∷ more → option_and_then (said_at notes) (slice_get places 0) ≡ Some n
place-first notes [] n more e = absurd (let z : [] ≡ Some n ∷ more = e in cc)
place-first notes (p ∷ places) n more e = (let z : said_at notes p ∷ map (said_at notes) places ≡ Some n ∷ more = e in cc)

places-first : (kept exported : List Note) (only : OnlyInOne) (d : NoteMismatch) (rest : List NoteMismatch) → ArePlacesOf kept exported only (d ∷ rest) → (m : AnnotationMismatch) → d.mismatch ≡ m → first_said m kept exported only ≡ Some d.note
places-first kept exported only d rest are Missing e = place-first kept only.missing.items d.note (said_of is_missing rest) (are.missing ∙ said-first is_missing d rest (ap is_missing e))
places-first kept exported only d rest are Extra e = place-first exported only.extra.items d.note (said_of is_extra rest) (are.extra ∙ said-first is_extra d rest (ap is_extra e))

-- ---- the verdict

told-first : (original : List ℕ) (parts : List (List ℕ)) (claim : ClaimValue) (found : Findings) (m : AnnotationMismatch) (n : NoteValue) (kept exported : List Note) (only : OnlyInOne) → AreFoundInSeveral original parts claim found
    → IsFirstNote (kept_notes original claim) (exported_by_all original parts claim) m n → AreListed found.notes kept exported only → first_said m kept exported only ≡ Some n
told-first original parts claim found m n kept exported only of first listed = by (first_unequal_of (map note_value kept) (map note_value exported)) refl answer
  where
    ks : List NoteValue
    ks = map note_value found.notes.kept.items

    es : List NoteValue
    es = map note_value found.notes.exported.items

    here : IsFirstNote ks es m n
    here =
        let notes = notes_of_all original parts claim found of.follow of.found_are in
        moved (kept_notes original claim) (exported_by_all original parts claim) ks es m n notes.0 notes.1 first

    answer : Answer ks es (first_unequal_of (map note_value kept) (map note_value exported))
    answer = counted found.notes.kept.items kept found.notes.exported.items exported (first_unequal_of (map note_value kept) (map note_value exported)) listed.kept_are listed.exported_are listed.kept_order listed.exported_order refl

    by : (o : Option NoteMismatch) → first_unequal_of (map note_value kept) (map note_value exported) ≡ o → Answer ks es o → first_said m kept exported only ≡ Some n
    by None is same = absurd (none-more m (times ks n) (times es n) (same n) here.differ)
    by (Some d) is there =
        let one = one-note ks es d.mismatch m d.note n there here in
        let ds = unequals_of (map note_value kept) (map note_value exported) in
        let all = first-there ds d (sym (first_is_first (map note_value kept) (map note_value exported)) ∙ is) in
        places-first kept exported only d all.0 (subst (ArePlacesOf kept exported only) all.1 listed.only_are) m one.0 ∙ ap (λ x. Some x) one.1

pub first_note_is_told : FirstNoteIsTold
first_note_is_told original export claim found m n kept exported only of verdict listed =
    told-first original (export ∷ []) claim found m n kept exported only (of_one original export claim found of)
    (subst (λ (notes : List NoteValue). IsFirstNote (kept_notes original claim) notes m n) (sym (append-nil (exported_notes original export claim))) verdict.3) listed

pub first_note_is_told_of_several : FirstNoteIsToldOfSeveral
first_note_is_told_of_several original parts claim found v m n kept exported only of verdict is listed =
    let said = subst (IsVerdictOnParts original parts claim v.part) is verdict in
    told-first original parts claim found m n kept exported only of said.3 listed
