-- Two files have a verdict under a claim.
use Rattle.std.proofs.Common.{Ordering, Less, Equal, Greater, ◌≡◌, ℕ, zero, suc, ◌*◌, ℤ, neg_ℤ, ◌+ℤ◌, true, false, List, [], ◌∷◌, length, map, Option, Some, None, MatchOption, ◌⊎◌, inl, inr, ⊎_elim, refl, sym, ap, ◌∙◌, subst, arith}
use Rattle.std.specs.List.Sorted.{IsPermutation}
use Rattle.std.specs.Ordering.{is_eq, is_gt}
use Rattle.std.proofs.lemmas.Cmp.{upto}
use Rattle.std.proofs.lemmas.List.Sorted.{IsPermutation-refl, IsPermutation-sym, IsPermutation-cons, IsPermutation-trans, IsPermutation-middle, sum_by-IsPermutation}
use Rattle.edf_claim.specs.Claims.{IsClaim}
use Rattle.edf_claim.specs.ClaimValues.{ClaimValue}
use Rattle.edf_fields.specs.declared.faults.fault.Fault.{Fault}
use Rattle.edf_fields.specs.Lists.{Has}
use Rattle.edf_fields.proofs.ForCallers.{has-at, has-permutation}
use Rattle.edf_header.specs.signals.Channels.{channels_among}
use Rattle.edf_header.specs.Heads.{samples_together}
use Rattle.edf_header.specs.HeadsReading.{head_of}
use Rattle.edf_stream.specs.Conforming.{Conforms}
use Rattle.edf_stream.specs.Faults.{file_fault}
use Rattle.edf_stream.specs.annotation.Notes.{NoteValue}
use Rattle.edf_stream.specs.annotation.NotesReading.{notes_of}
use Rattle.edf_stream.specs.samples.SamplesReading.{samples_of}
use Rattle.edf_stream.proofs.ForCallers.{head-is, conforming_is_faultless}
use Rattle.edf_verdict.specs.declared.verdict.AnnotationMismatch.{AnnotationMismatch}
use Rattle.edf_verdict.specs.declared.verdict.SampleMismatch.{SampleMismatch}
use Rattle.edf_verdict.specs.declared.verdict.Verdict.{Verdict}
use Rattle.edf_verdict.specs.declared.verdict.Verdict.TheVariants.{Yes, No}
use Rattle.edf_verdict.specs.declared.verdict.Difference.TheVariants as differences
use Rattle.edf_heads.specs.HeadVerdicts.{HeadsAgree}
use Rattle.edf_heads.specs.Labels.{IsNotAbove}
use Rattle.edf_heads.proofs.ForCallers.{not-above-self, not-above-behind, one-not-above, agree_or_differ}
use Rattle.edf_pace.specs.Annotations.{note_cmp, times, IsFirstNote, SameNotes}
use Rattle.edf_check.specs.Courses.{Agree, IsFirstMismatch}
use Rattle.edf_check.specs.Exports.{BothConform, SameSamples}
use Rattle.edf_pace.specs.Kept.{shift_ps}
use Rattle.edf_check.specs.KeptReading.{origin_of, KeptAt, ExportedAt, kept_notes, exported_notes}
use Rattle.edf_check.specs.Laws.{SomeVerdict}
use Rattle.edf_check.specs.Verdicts.{IsVerdict}
use Rattle.edf_samples.specs.declared.earliest.Found.{Found}
use Rattle.edf_pace.specs.notes.NoteOrder.{NoteMismatch, first_unequal_of}
use Rattle.edf_pace.specs.walk.Columns.{Sampled}
use Rattle.edf_samples.specs.Differences.{earliest}
use Rattle.edf_check.proofs.CourseFacts.{agree-alike, first-alike}
use Rattle.edf_pace.proofs.ForCallers.{note-total, once, turn, more-with, Answer, unequal-exact, AreInOrder}
use Rattle.edf_check.proofs.ColumnFacts.{named, first-is-first, Column, KeptIn, ExportedIn, LabelsRise, difference_of}
use Rattle.edf_check.proofs.NightFacts.{sound-head, AreClaimed, columns_of, kept-agree, exported-agree, are-columns, AreNights}
use Rattle.edf_check.proofs.WalkFacts.{of_heads}

-- ---- a list in order

abbrev Rises : {X : Type 0} → (X → X → Type 0) → List X → Type 0
Rises R [] = Unit {0}
Rises {X} R (x ∷ xs) = ((y : X) → Has xs y → R x y) × Rises R xs

-- a rearrangement of the list that rises
abbrev InOrder : {X : Type 0} → (X → X → Type 0) → List X → Type 0
InOrder {X} R xs = (ys : List X) × Rises R ys × IsPermutation xs ys

put : {X : Type 0} (R : X → X → Type 0) → ((x y : X) → R x y ⊎ R y x) → ((x y z : X) → R x y → R y z → R x z) → (x : X) (xs : List X) → Rises R xs → InOrder R (x ∷ xs)
put R either through x [] up = (x ∷ [], (λ y h. absurd h, tt), IsPermutation-refl (x ∷ []))
put {X} R either through x (y ∷ ys) up = cases (either x y) (put R either through x ys up.1)
  where
    cases : R x y ⊎ R y x → InOrder R (x ∷ ys) → InOrder R (x ∷ y ∷ ys)
    cases (inl le) r = (x ∷ y ∷ ys, (λ z h. ⊎_elim (λ e. subst (R x) e le) (λ i. through x y z le (up.0 z i)) h, up), IsPermutation-refl (x ∷ y ∷ ys))
    cases (inr le) r = (
      y ∷ r.0,
      (λ z h. ⊎_elim (λ e. subst (R y) e le) (λ i. up.0 z i) (has-permutation r.0 (x ∷ ys) z (IsPermutation-sym (x ∷ ys) r.0 r.2) h), r.1),
      IsPermutation-trans (x ∷ y ∷ ys) (y ∷ x ∷ ys) (y ∷ r.0) (IsPermutation-middle (x ∷ []) y ys) (IsPermutation-cons y (x ∷ ys) r.0 r.2),
    )

in-order : {X : Type 0} (R : X → X → Type 0) → ((x y : X) → R x y ⊎ R y x) → ((x y z : X) → R x y → R y z → R x z) → (xs : List X) → InOrder R xs
in-order R either through [] = ([], tt, IsPermutation-refl [])
in-order R either through (x ∷ xs) =
    let r = in-order R either through xs in
    let p = put R either through x r.0 r.1 in
    (p.0, p.1, IsPermutation-trans (x ∷ xs) (x ∷ r.0) p.0 (IsPermutation-cons x xs r.0 r.2) p.2)

-- ---- labels in order

labels-rise : (xs : List (List ℕ)) → Rises IsNotAbove xs → LabelsRise xs
labels-rise [] up i j label other le a b = absurd (let z : None ≡ Some label = a in cc)
labels-rise (x ∷ xs) up zero zero label other le a b =
    let p : x ≡ label = (let z : Some x ≡ Some label = a in cc) in
    let q : x ≡ other = (let z : Some x ≡ Some other = b in cc) in
    subst (IsNotAbove label) (sym p ∙ q) (not-above-self label)
labels-rise (x ∷ xs) up zero (suc j) label other le a b =
    let p : x ≡ label = (let z : Some x ≡ Some label = a in cc) in
    subst (λ l. IsNotAbove l other) p (up.0 other (has-at xs j other b))
labels-rise (x ∷ xs) up (suc i) zero label other le a b = absurd (omega (arith, le))
labels-rise (x ∷ xs) up (suc i) (suc j) label other le a b = labels-rise xs up.1 i j label other (omega (arith, le)) a b

-- ---- annotations in order

-- the second isn't before the first
abbrev IsUpTo : NoteValue → NoteValue → Type 0
IsUpTo x y = is_gt (note_cmp x y) ≡ false

either-up : (x y : NoteValue) → IsUpTo x y ⊎ IsUpTo y x
either-up x y = cases (note_cmp x y) refl
  where
    cases : (o : Ordering) → note_cmp x y ≡ o → (is_gt (note_cmp x y) ≡ false) ⊎ (is_gt (note_cmp y x) ≡ false)
    cases Less e = inl (ap is_gt e)
    cases Equal e = inl (ap is_gt e)
    cases Greater e = inr (ap is_gt (turn x y Greater e))

rising-notes : (xs : List NoteValue) → Rises IsUpTo xs → AreInOrder xs
rising-notes [] up = tt
rising-notes (x ∷ xs) up = (λ y h l. let f : true ≡ false = sym (ap is_gt (turn y x Less l)) ∙ up.0 y h in absurd (let g : true ≡ false = f in cc), rising-notes xs up.1)

notes-in-order : (xs : List NoteValue) → (ys : List NoteValue) × AreInOrder ys × ((n : NoteValue) → times ys n ≡ times xs n)
notes-in-order xs =
    let r = in-order IsUpTo either-up (upto note-total) xs in
    (r.0, rising-notes r.0 r.1, λ n. sum_by-IsPermutation (λ other. once (is_eq (note_cmp other n))) xs r.0 r.2)

same-or-first : (kept exported : List NoteValue) → SameNotes kept exported ⊎ ((m : AnnotationMismatch) × (n : NoteValue) × IsFirstNote kept exported m n)
same-or-first kept exported =
    let a = notes-in-order kept in
    let b = notes-in-order exported in
    back a.0 b.0 a.2 b.2 (first_unequal_of a.0 b.0) (unequal-exact a.0 b.0 a.1 b.1)
  where
    back : (xs ys : List NoteValue) → ((n : NoteValue) → times xs n ≡ times kept n) → ((n : NoteValue) → times ys n ≡ times exported n) → (o : Option NoteMismatch) → Answer xs ys o
        → SameNotes kept exported ⊎ ((m : AnnotationMismatch) × (n : NoteValue) × IsFirstNote kept exported m n)
    back xs ys p q None h = inl (λ n. sym (p n) ∙ h n ∙ q n)
    back xs ys p q (Some d) h =
        let a = p d.note in
        let b = q d.note in
        inr (
          d.mismatch,
          d.note,
          record {
            differ = more-with d.mismatch (times xs d.note) (times ys d.note) 0 (times kept d.note) (times exported d.note) (omega (arith, a)) (omega (arith, b)) h.differ;
            least = λ n l. sym (p n) ∙ h.least n l ∙ q n;
          },
        )

-- ---- samples

abbrev OrMismatch : List ℕ → List ℕ → ClaimValue → Type 0
OrMismatch o e c = SameSamples o e c ⊎ ((l : List ℕ) × (ps : ℤ) × (m : SampleMismatch) × IsFirstMismatch (KeptAt o c) (ExportedAt o e c) l ps m)

agree-or-mismatch : (o e : List ℕ) (c : ClaimValue) → BothConform o e → HeadsAgree (head_of o) (head_of e) c → OrMismatch o e c
agree-or-mismatch o e c both agree = cases (earliest 0 (map difference_of cs)) (first-is-first cs (are-columns o e c x y labels nights claimed (labels-rise labels sorted.1)))
  where
    x : Sampled
    x = record { head = head_of o; samples = samples_of o (head_of o); moved = neg_ℤ (origin_of o) }

    y : Sampled
    y = record { head = head_of e; samples = samples_of e (head_of e); moved = neg_ℤ (origin_of o +ℤ shift_ps c) }

    nights : AreNights o e c x y
    nights = record { conform = both; channels = agree.channels; original_head = refl; original_samples = refl; original_moved = refl; export_head = refl; export_samples = refl; export_moved = refl }

    sorted : InOrder IsNotAbove c.channels
    sorted = in-order IsNotAbove one-not-above not-above-behind c.channels

    labels : List (List ℕ)
    labels = sorted.0

    claimed : AreClaimed c labels
    claimed l = (has-permutation labels c.channels l (IsPermutation-sym c.channels labels sorted.2), has-permutation c.channels labels l sorted.2)

    cs : List Column
    cs = columns_of c x y labels

    kept : Agree (KeptIn cs) (KeptAt o c)
    kept = kept-agree o e c x y labels nights claimed

    exported : Agree (ExportedIn cs) (ExportedAt o e c)
    exported = exported-agree o e c x y labels nights claimed

    cases : (found : Option Found) → MatchOption found (Agree (KeptIn cs) (ExportedIn cs)) (λ f. IsFirstMismatch (KeptIn cs) (ExportedIn cs) (named cs f).label (named cs f).at_ps (named cs f).mismatch) → OrMismatch o e c
    cases None h = inl (agree-alike (KeptIn cs) (KeptAt o c) (ExportedIn cs) (ExportedAt o e c) kept exported h)
    cases (Some f) h = inr (
      (named cs f).label,
      (named cs f).at_ps,
      (named cs f).mismatch,
      first-alike (KeptIn cs) (KeptAt o c) (ExportedIn cs) (ExportedAt o e c) kept exported (named cs f).label (named cs f).at_ps (named cs f).mismatch h,
    )

-- ---- the verdict, from its last kind to the first

abbrev HasVerdict : List ℕ → List ℕ → ClaimValue → Type 0
HasVerdict o e c = (v : Verdict) × IsVerdict o e c v

from-notes : (o e : List ℕ) (c : ClaimValue) → BothConform o e → HeadsAgree (head_of o) (head_of e) c → SameSamples o e c → HasVerdict o e c
from-notes o e c both agree samples =
    ⊎_elim
    (λ same. (
      Yes (length (channels_among (head_of e).signals)) ((head_of e).records * samples_together (channels_among (head_of e).signals)) (length (notes_of e (head_of e))),
      (both, record { heads = agree; samples = samples; notes = same }, record { channels_are = refl; samples_are = refl; annotations_are = refl }),
    ))
    (λ r. (No (differences.Annotation r.0 (r.1).onset (r.1).duration (r.1).text), (both, agree, samples, r.2)))
    (same-or-first (kept_notes o c) (exported_notes o e c))

from-samples : (o e : List ℕ) (c : ClaimValue) → BothConform o e → HeadsAgree (head_of o) (head_of e) c → HasVerdict o e c
from-samples o e c both agree =
    ⊎_elim (λ same. from-notes o e c both agree same) (λ r. (No (differences.Sample r.0 r.1 r.2), (both, agree, r.3))) (agree-or-mismatch o e c both agree)

from-heads : (o e : List ℕ) (c : ClaimValue) → IsClaim c → BothConform o e → HasVerdict o e c
from-heads o e c is both =
    ⊎_elim (λ agree. from-samples o e c both agree) (λ r. (r.0, of_heads o e c r.0 both r.1))
    (agree_or_differ (head_of o) (head_of e) c (sound-head o both.original_conforms) (sound-head e both.export_conforms) is)

conforms-or-not : (file : List ℕ) → Conforms file (head_of file) ⊎ ((fault : Fault) × (file_fault file ≡ Some fault))
conforms-or-not file = cases (file_fault file) refl
  where
    cases : (o : Option Fault) → file_fault file ≡ o → Conforms file (head_of file) ⊎ ((fault : Fault) × (file_fault file ≡ Some fault))
    cases None e = let r = (conforming_is_faultless file).0 e in inl (subst (Conforms file) (head-is file r.0 (r.1).header).1 r.1)
    cases (Some fault) e = inr (fault, e)

pub some_verdict : SomeVerdict
some_verdict o e c is =
    ⊎_elim
    (λ there. ⊎_elim
    (λ here. from-heads o e c is (record { original_conforms = there; export_conforms = here }))
    (λ r. (No (differences.ExportFault r.0), ((conforming_is_faultless o).1 (head_of o, there), r.1)))
    (conforms-or-not e))
    (λ r. (No (differences.OriginalFault r.0), r.1))
    (conforms-or-not o)
