-- Several parts have one verdict at most, which is said of one part.
use Rattle.std.proofs.Common.{◌≡◌, ℕ, suc, ◌+◌, ◌<◌, ℤ, ◌≤ℤ◌, List, [], ◌∷◌, length, None, Some, slice_get, inl, inr, refl, sym, ap, ◌∙◌, arith, subst}
use Rattle.std.proofs.lemmas.Bool.{cases_lt}
use Rattle.std.proofs.lemmas.Int.{ints}
use Rattle.edf_claim.specs.ClaimValues.{ClaimValue}
use Rattle.edf_fields.specs.declared.faults.fault.Fault.{Fault}
use Rattle.edf_fields.specs.Lists.{Has}
use Rattle.edf_fields.proofs.ForCallers.{has-at}
use Rattle.edf_header.specs.HeadsReading.{head_of}
use Rattle.edf_heads.specs.HeadVerdicts.{HeadsAgree, IsHeadVerdict}
use Rattle.edf_heads.proofs.ForCallers.{One, Made, Else, one-made, either-one, agree-apart, one_head_verdict}
use Rattle.edf_stream.specs.Conforming.{Conforms}
use Rattle.edf_stream.specs.Faults.{file_fault}
use Rattle.edf_stream.specs.annotation.Notes.{NoteValue}
use Rattle.edf_verdict.specs.declared.parts_verdict.PartsVerdict.{PartsVerdict}
use Rattle.edf_verdict.specs.declared.verdict.AnnotationMismatch.{AnnotationMismatch}
use Rattle.edf_verdict.specs.declared.verdict.SampleMismatch.{SampleMismatch}
use Rattle.edf_verdict.specs.declared.verdict.Verdict.{Verdict}
use Rattle.edf_verdict.specs.declared.verdict.Verdict.TheVariants.{Yes, No}
use Rattle.edf_verdict.specs.declared.verdict.Difference.TheVariants as differences
use Rattle.edf_pace.specs.Annotations.{IsFirstNote, SameNotes}
use Rattle.edf_check.specs.Courses.{Course, Agree, IsFirstMismatch}
use Rattle.edf_check.specs.KeptReading.{KeptAt, kept_notes}
use Rattle.edf_check.specs.Laws.{OneVerdict, OneVerdictOnParts, YesExactly, YesTogether}
use Rattle.edf_check.specs.parts.Parts.{AllConform, ExportedByOne, FollowOneAnother, exported_by_all}
use Rattle.edf_check.specs.parts.PartsFirst.{GoesFirst, IsFirstFault, IsFirstHead, rank}
use Rattle.edf_check.specs.parts.PartsVerdicts.{AllInOrder, HaveCounts, IsFirstOverlap, IsVerdictOnParts, samples_of_all}
use Rattle.edf_samples.specs.Stretches.{whole}
use Rattle.edf_check.proofs.CourseFacts.{IsCourse, first-apart, one-first}
use Rattle.edf_check.proofs.parts.FoundFacts.{faultless_part}
use Rattle.edf_check.proofs.JoinFacts.{back-of, front-of, IsCutAt}
use Rattle.edf_check.proofs.KeptFacts.{exported-course, kept-course}
use Rattle.edf_check.proofs.parts.PartsFacts.{one_part}
use Rattle.edf_check.proofs.parts.PartsVerdictFacts.{no-fault, agreeing-course, conforms-alone, one-conforms, to-parts}
use Rattle.edf_check.proofs.parts.TogetherFacts.{begin-moved, end-moved}
use Rattle.edf_pace.proofs.ForCallers.{note-apart, one-note}
use Rattle.edf_samples.proofs.ForCallers.{by_before}
use Rattle.edf_check.proofs.parts.SeriesFacts.{parts-cut, moved_part, part_begin, part_end}
use Rattle.edf_check.specs.parts.PartsFound.{AreOrdered}

-- ---- parts in order have one value at an instant of a channel

-- of two courses on the two sides of a time
cut-course : (u : ℤ) (E F G : Course) → IsCutAt (whole u) E F G → IsCourse F → IsCourse G → IsCourse E
cut-course u E F G c f g = record {
  moves = λ l t w v pt pw s h.
      by_before t (whole u)
      (λ b. (c.front l w v pw (f.moves l t w v pt pw s (front-of (whole u) E F G c l t v pt b h))).0)
      (λ b. (c.back l w v pw (g.moves l t w v pt pw s (back-of (whole u) E F G c l t v pt b h))).0);
  one = λ l t v w p x y.
      by_before t (whole u)
      (λ b. f.one l t v w p (front-of (whole u) E F G c l t v p b x) (front-of (whole u) E F G c l t w p b y))
      (λ b. g.one l t v w p (back-of (whole u) E F G c l t v p b x) (back-of (whole u) E F G c l t w p b y));
}

none-course : (o : List ℕ) (c : ClaimValue) → IsCourse (ExportedByOne o [] c)
none-course o c = record { moves = λ l t u v pt pu s (part, i, h). absurd i; one = λ l t v w p (part, i, h) y. absurd i }

parts-course : (o : List ℕ) (c : ClaimValue) (t : ℤ) (parts : List (List ℕ)) → ((part : List ℕ) → Has parts part → Conforms part (head_of part)) → AreOrdered (moved_part o c) t parts → IsCourse (ExportedByOne o parts c)
parts-course o c t [] conform order = none-course o c
parts-course o c t (part ∷ parts) conform order =
    cut-course (part_end o c part) _ _ _ (parts-cut o c t part parts conform order) (exported-course o part c (conform part (inl refl)))
    (parts-course o c (part_end o c part) parts (λ x i. conform x (inr i)) order.1)

-- parts that follow one another are in order from the begin of the first one on
further : (j : ℕ) → suc (j + 1) ≡ suc j + 1
further j = omega arith

follow-tail : (part : List ℕ) (parts : List (List ℕ)) → FollowOneAnother (part ∷ parts) → FollowOneAnother parts
follow-tail part parts follow j x y p q = follow (suc j) x y p (subst (λ n. slice_get (part ∷ parts) n ≡ Some y) (further j) q)

pub from-first : (o : List ℕ) (c : ClaimValue) (t : ℤ) (part : List ℕ) (parts : List (List ℕ)) → FollowOneAnother (part ∷ parts) → t ≤ℤ part_begin o c part → AreOrdered (moved_part o c) t (part ∷ parts)
from-first o c t part [] follow le = (le, tt)
from-first o c t part (next ∷ parts) follow le =
    let b = begin-moved next (moved_part o c) in
    let e = end-moved part (moved_part o c) in
    let here = follow 0 part next refl refl in
    (le, from-first o c (part_end o c part) next parts (follow-tail part (next ∷ parts) follow) (omega (arith, ints, b, e, here)))

same-time : (x : ℤ) → x ≤ℤ x
same-time x = omega (arith, ints)

pub ordered-course : (o : List ℕ) (c : ClaimValue) (parts : List (List ℕ)) → ((part : List ℕ) → Has parts part → Conforms part (head_of part)) → FollowOneAnother parts → IsCourse (ExportedByOne o parts c)
ordered-course o c [] conform follow = none-course o c
ordered-course o c (part ∷ parts) conform follow = parts-course o c (part_begin o c part) (part ∷ parts) conform (from-first o c (part_begin o c part) part parts follow (same-time (part_begin o c part)))

-- ---- the first of each kind is one

same-place : (i j : ℕ) → (i < j → ⊥) → (j < i → ⊥) → i ≡ j
same-place i j p q = elim (cases_lt i j) [
  | inl lt ↦ absurd (p lt)
  | inr le ↦ elim (cases_lt j i) [
    | inl gt ↦ absurd (q gt)
    | inr ge ↦ omega (arith, le, ge)
  ]
]

same-file : (parts : List (List ℕ)) (i j : ℕ) (x y : List ℕ) → i ≡ j → slice_get parts i ≡ Some x → slice_get parts j ≡ Some y → x ≡ y
same-file parts i j x y e a b = let z : Some x ≡ Some y = sym (subst (λ k. slice_get parts k ≡ Some x) e a) ∙ b in cc

one-fault : (parts : List (List ℕ)) (d e : ℕ × Fault) → IsFirstFault 0 parts d.0 d.1 → IsFirstFault 0 parts e.0 e.1 → d ≡ e
one-fault parts (k, x) (j, y) f g =
    let at = same-place f.at g.at (λ lt. no-fault f.file x f.fault_is (g.none_before f.at f.file lt (f.is).there)) (λ lt. no-fault g.file y g.fault_is (f.none_before g.at g.file lt (g.is).there)) in
    let file = same-file parts f.at g.at f.file g.file at (f.is).there (g.is).there in
    let n = (f.is).number in
    let m = (g.is).number in
    let number : k ≡ j = omega (arith, n, m, at) in
    let faults : Some x ≡ Some y = sym f.fault_is ∙ ap file_fault file ∙ g.fault_is in
    cc

one-place : (a b i j : ℕ) → GoesFirst a i b j → GoesFirst b j a i → i ≡ j
one-place a b i j (inl lt) (inl gt) = absurd (omega (arith, lt, gt))
one-place a b i j (inl lt) (inr e) = absurd (let s = e.0 in omega (arith, lt, s))
one-place a b i j (inr e) (inl gt) = absurd (let s = e.0 in omega (arith, gt, s))
one-place a b i j (inr e) (inr f) = let p = e.1 in let q = f.1 in omega (arith, p, q)

abbrev said : ℕ → Verdict → PartsVerdict
said part verdict = record { part = part; verdict = verdict }

abbrev OfHead : List ℕ → List (List ℕ) → ClaimValue → PartsVerdict → Type 0
OfHead o parts c v = IsFirstHead (head_of o) c 0 parts v.part v.verdict

one-head : (o : List ℕ) (c : ClaimValue) (parts : List (List ℕ)) → One (OfHead o parts c)
one-head o c parts x y f g =
    let v = x.verdict in
    let w = y.verdict in
    let at = one-place (rank v) (rank w) f.at g.at (f.least g.at g.file w (g.is).there g.differs) (g.least f.at f.file v (f.is).there f.differs) in
    let P : List ℕ → Type 0 = λ e. IsHeadVerdict (head_of o) (head_of e) c v in
    let same = one_head_verdict (head_of o) (head_of g.file) c v w (subst P (same-file parts f.at g.at f.file g.file at (f.is).there (g.is).there) f.differs) g.differs in
    let n = (f.is).number in
    let m = (g.is).number in
    ap (λ k. said k v) (omega (arith, n, m, at)) ∙ ap (said y.part) same

one-overlap : (parts : List (List ℕ)) (k j : ℕ) → IsFirstOverlap parts k → IsFirstOverlap parts j → k ≡ j
one-overlap parts k j f g =
    let at = same-place f.before g.before
    (λ lt. let a = g.none_before f.before f.one f.next lt f.one_is f.next_is in let b = f.early in omega (arith, ints, a, b))
    (λ lt. let a = f.none_before g.before g.one g.next lt g.one_is g.next_is in let b = g.early in omega (arith, ints, a, b)) in
    let n = f.number in
    let m = g.number in
    omega (arith, n, m, at)

-- ---- kinds of verdicts, from each on

abbrev FromSamples : List ℕ → List (List ℕ) → ClaimValue → PartsVerdict → Type 0
FromSamples o parts c =
    Else (Made (λ (d : List ℕ × ℤ × SampleMismatch). said 0 (No (differences.Sample d.0 d.1 d.2))) (λ d. IsFirstMismatch (KeptAt o c) (ExportedByOne o parts c) d.0 d.1 d.2))
    (Agree (KeptAt o c) (ExportedByOne o parts c))
    (Else (Made (λ (d : AnnotationMismatch × NoteValue). said 0 (No (differences.Annotation d.0 (d.1).onset (d.1).duration (d.1).text))) (λ d. IsFirstNote (kept_notes o c) (exported_by_all o parts c) d.0 d.1))
    (SameNotes (kept_notes o c) (exported_by_all o parts c))
    (Made (λ (n : ℕ × ℕ × ℕ). said 0 (Yes n.0 n.1 n.2)) (λ n. HaveCounts o parts c n.0 n.1 n.2)))

abbrev AllHeadsAgree : List ℕ → List (List ℕ) → ClaimValue → Type 0
AllHeadsAgree o parts c = (part : List ℕ) → Has parts part → HeadsAgree (head_of o) (head_of part) c

abbrev FromHead : List ℕ → List (List ℕ) → ClaimValue → PartsVerdict → Type 0
FromHead o parts c =
    Else (OfHead o parts c) (AllHeadsAgree o parts c)
    (Else (Made (λ part. said part (No differences.PartOrder)) (IsFirstOverlap parts)) (FollowOneAnother parts) (FromSamples o parts c))

abbrev FromOriginal : List ℕ → List (List ℕ) → ClaimValue → PartsVerdict → Type 0
FromOriginal o parts c =
    Else (Made (λ fault. said 0 (No (differences.OriginalFault fault))) (λ fault. file_fault o ≡ Some fault)) (file_fault o ≡ None)
    (Else (Made (λ (d : ℕ × Fault). said d.0 (No (differences.ExportFault d.1))) (λ d. IsFirstFault 0 parts d.0 d.1)) (AllConform o parts) (FromHead o parts c))

conforming : (o : List ℕ) (parts : List (List ℕ)) (c : ClaimValue) (v : PartsVerdict) → AllConform o parts → FromHead o parts c v → FromOriginal o parts c v
conforming o parts c v all kind = inr (faultless_part o all.original_conforms, inr (all, kind))

ordered : (o : List ℕ) (parts : List (List ℕ)) (c : ClaimValue) (v : PartsVerdict) → AllInOrder o parts c → FromSamples o parts c v → FromOriginal o parts c v
ordered o parts c v all kind = conforming o parts c v (all.agreed).conform (inr ((all.agreed).agree, inr (all.order, kind)))

kind-of : (o : List ℕ) (parts : List (List ℕ)) (c : ClaimValue) (part : ℕ) (v : Verdict) → IsVerdictOnParts o parts c part v → FromOriginal o parts c (said part v)
kind-of o parts c part (Yes channels samples annotations) h =
    let t = h.2 in
    ordered o parts c _ (record { agreed = record { conform = h.1; agree = t.heads }; order = t.order })
    (inr (t.samples, inr (t.notes, ((channels, samples, annotations), ap (λ k. said k (Yes channels samples annotations)) h.0, h.3))))
kind-of o parts c part (No (differences.OriginalFault fault)) h = inl (fault, ap (λ k. said k (No (differences.OriginalFault fault))) h.0, h.1)
kind-of o parts c part (No (differences.ExportFault fault)) h = inr (h.0, inl ((part, fault), refl, h.1))
kind-of o parts c part (No differences.PartOrder) h = conforming o parts c _ (h.0).conform (inr ((h.0).agree, inl (part, refl, h.1)))
kind-of o parts c part (No (differences.Sample label at_ps mismatch)) h =
    ordered o parts c _ h.1 (inl ((label, at_ps, mismatch), ap (λ k. said k (No (differences.Sample label at_ps mismatch))) h.0, h.2))
kind-of o parts c part (No (differences.Annotation mismatch onset duration text)) h =
    let note : NoteValue = record { onset = onset; duration = duration; text = text } in
    ordered o parts c _ h.1 (inr (h.2, inl ((mismatch, note), ap (λ k. said k (No (differences.Annotation mismatch onset duration text))) h.0, h.3)))
kind-of o parts c part v h = conforming o parts c (said part v) h.0 (inl h.1)

-- ---- of each kind there is one, and it excludes those behind

one-sample : (o : List ℕ) (parts : List (List ℕ)) (c : ClaimValue) → AllConform o parts → FollowOneAnother parts → (d e : List ℕ × ℤ × SampleMismatch)
    → IsFirstMismatch (KeptAt o c) (ExportedByOne o parts c) d.0 d.1 d.2 → IsFirstMismatch (KeptAt o c) (ExportedByOne o parts c) e.0 e.1 e.2 → d ≡ e
one-sample o parts c all follow (l, p, m) (l', p', m') f g =
    let r = one-first (KeptAt o c) (ExportedByOne o parts c) (kept-course o c all.original_conforms) (ordered-course o c parts all.parts_conform follow) l l' p p' m m' f g in
    let a : l ≡ l' = r.0 in
    let b : p ≡ p' = r.1 in
    let d : m ≡ m' = r.2 in
    cc

one-difference : (kept exported : List NoteValue) (d e : AnnotationMismatch × NoteValue) → IsFirstNote kept exported d.0 d.1 → IsFirstNote kept exported e.0 e.1 → d ≡ e
one-difference kept exported (m, x) (n, y) f g =
    let r = one-note kept exported m n x y f g in
    let a : m ≡ n = r.0 in
    let b : x ≡ y = r.1 in
    cc

one-count : (o : List ℕ) (parts : List (List ℕ)) (c : ClaimValue) (n m : ℕ × ℕ × ℕ) → HaveCounts o parts c n.0 n.1 n.2 → HaveCounts o parts c m.0 m.1 m.2 → n ≡ m
one-count o parts c (x, y, z) (x', y', z') f g =
    let a : x ≡ x' = f.channels_are ∙ sym g.channels_are in
    let b : y ≡ y' = f.samples_are ∙ sym g.samples_are in
    let d : z ≡ z' = f.annotations_are ∙ sym g.annotations_are in
    cc

one-from-samples : (o : List ℕ) (parts : List (List ℕ)) (c : ClaimValue) → AllConform o parts → FollowOneAnother parts → One (FromSamples o parts c)
one-from-samples o parts c all follow =
    either-one (one-made (one-sample o parts c all follow))
    (λ v x same. first-apart (KeptAt o c) (ExportedByOne o parts c) (x.0).0 (x.0).1 (x.0).2 (agreeing-course (KeptAt o c) (ExportedByOne o parts c) (kept-course o c all.original_conforms) same) same x.2)
    (λ same. either-one (one-made (one-difference (kept_notes o c) (exported_by_all o parts c)))
    (λ v x notes. note-apart (kept_notes o c) (exported_by_all o parts c) (x.0).0 (x.0).1 notes x.2) (λ notes. one-made (one-count o parts c)))

one-from-head : (o : List ℕ) (parts : List (List ℕ)) (c : ClaimValue) → AllConform o parts → One (FromHead o parts c)
one-from-head o parts c all =
    either-one (one-head o c parts) (λ v f agree. agree-apart (head_of o) (head_of f.file) c v.verdict f.differs (agree f.file (has-at parts f.at f.file (f.is).there)))
    (λ agree. either-one (one-made (one-overlap parts))
    (λ v x follow. let p = x.2 in let le = follow p.before p.one p.next p.one_is p.next_is in let lt = p.early in omega (arith, ints, le, lt))
    (λ follow. one-from-samples o parts c all follow))

one-from-original : (o : List ℕ) (parts : List (List ℕ)) (c : ClaimValue) → One (FromOriginal o parts c)
one-from-original o parts c =
    either-one (one-made (λ x y p q. let z : Some x ≡ Some y = sym p ∙ q in cc)) (λ v x none. no-fault o x.0 x.2 none)
    (λ none. either-one (one-made (one-fault parts))
    (λ v x all. let f = x.2 in no-fault f.file (x.0).1 f.fault_is (faultless_part f.file (all.parts_conform f.file (has-at parts f.at f.file (f.is).there))))
    (λ all. one-from-head o parts c all))

pub one_verdict_on_parts : OneVerdictOnParts
one_verdict_on_parts o parts c v w p q = one-from-original o parts c v w (kind-of o parts c v.part v.verdict p) (kind-of o parts c w.part w.verdict q)

-- ---- it is a Yes exactly where the parts are together the export: that Yes is a verdict then, and so the only one

pub yes_together : YesTogether
yes_together o parts c v h = (
  λ x.
      let is = one_verdict_on_parts o parts c v (said 0 (Yes (length c.channels) (samples_of_all parts) (length (exported_by_all o parts c)))) h
      (refl, x.0, x.1, record { channels_are = refl; samples_are = refl; annotations_are = refl }) in
      (length c.channels, samples_of_all parts, length (exported_by_all o parts c), ap (λ (w : PartsVerdict). w.verdict) is),
  λ y. let z = subst (IsVerdictOnParts o parts c v.part) y.3 h in (z.1, z.2),
)

-- ---- two files have one verdict at most, and it is a Yes exactly for an export: both by the only part

pub one_verdict : OneVerdict
one_verdict o e c v w p q = ap (λ (x : PartsVerdict). x.verdict) (one_verdict_on_parts o (e ∷ []) c (said 0 v) (said 0 w) (to-parts o e c v p) (to-parts o e c w q))

pub yes_exactly : YesExactly
yes_exactly o e c v h =
    let on = yes_together o (e ∷ []) c (said 0 v) (to-parts o e c v h) in (
      λ x. on.0 (one-conforms o e x.0, (one_part o e c).1 x.1),
      λ y. (let z = on.1 y in (conforms-alone o e z.0, (one_part o e c).0 z.1)),
    )
