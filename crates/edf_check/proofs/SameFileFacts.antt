-- Files that hold the same have the same verdict.
use Rattle.std.proofs.Common.{◌≡◌, ℕ, ◌+◌, ◌<◌, ℤ, pos, neg_ℤ, ◌+ℤ◌, ◌*ℤ◌, ◌<ℤ◌, ◌^◌, Bool, true, false, cond, List, [], ◌∷◌, length, map, filter, refl, sym, ap, ◌∙◌, subst, arith}
use Rattle.std.specs.List.{sum_by}
use Rattle.std.specs.List.Sorted.{IsPermutation}
use Rattle.std.specs.Ordering.{is_eq}
use Rattle.std.proofs.lemmas.Int.{ints}
use Rattle.std.proofs.lemmas.List.Sorted.{sum_by-IsPermutation, IsPermutation-map, IsPermutation-refl, length_permutation}
use Rattle.std.proofs.lemmas.List.{length-map}
use Rattle.std.proofs.lemmas.List.Sums.{sum_by-cons}
use Rattle.edf_claim.specs.ClaimValues.{ClaimValue}
use Rattle.edf_claim.specs.Keeps.{keeps_annotation}
use Rattle.edf_header.specs.signals.Channels.{channels_among, channel_labels}
use Rattle.edf_header.specs.Heads.{SignalHead}
use Rattle.edf_header.specs.HeadsReading.{head_of, start_second}
use Rattle.edf_stream.specs.declared.times.instant.Instant.{Instant}
use Rattle.edf_stream.specs.Conforming.{Conforms}
use Rattle.edf_stream.specs.times.InstantOrder.{IsNotBefore, IsSecondOf}
use Rattle.edf_stream.specs.times.Instants.{IsSame}
use Rattle.edf_stream.specs.annotation.Notes.{NoteValue, moved_by}
use Rattle.edf_stream.specs.annotation.NotesReading.{notes_of}
use Rattle.edf_stream.specs.samples.Samples.{SampleValue, IsSample}
use Rattle.edf_stream.proofs.ForCallers.{start_is_of_least}
use Rattle.edf_verdict.specs.declared.verdict.Verdict.{Verdict}
use Rattle.edf_verdict.specs.declared.verdict.Verdict.TheVariants.{Yes, No}
use Rattle.edf_verdict.specs.declared.verdict.Difference.TheVariants as differences
use Rattle.edf_heads.specs.HeadVerdicts.{HeadsAgree, IsHeadVerdict}
use Rattle.edf_heads.specs.SameHeads.{AreBlankAlike}
use Rattle.edf_heads.proofs.ForCallers.{AreSamePairs, same-heads-self, blank-alike-self, agree_carried, head_verdict_carried}
use Rattle.edf_pace.specs.Annotations.{note_cmp, times}
use Rattle.edf_check.specs.Courses.{Agree}
use Rattle.edf_check.specs.Exports.{BothConform, SameSamples}
use Rattle.edf_samples.specs.InstantOrder.{IsBefore}
use Rattle.edf_samples.specs.Instants.{later}
use Rattle.edf_pace.specs.Kept.{shift_ps, kept_of}
use Rattle.edf_pace.specs.walk.Gathered.{as_kept}
use Rattle.edf_check.specs.KeptReading.{origin_of, ValueAt, KeptAt, ExportedAt, kept_notes, exported_notes}
use Rattle.edf_check.specs.Laws.{AnyCutOfExport, AnyCutOfOriginal}
use Rattle.edf_check.specs.SameFiles.{HoldTheSame}
use Rattle.edf_check.specs.Verdicts.{IsVerdict}
use Rattle.edf_check.proofs.CourseFacts.{agree-alike, agree-back, first-alike}
use Rattle.edf_check.proofs.StartFacts.{whole-at, once, reached-at, before-at, same-second}
use Rattle.edf_check.proofs.parts.FoundFacts.{faultless_part}
use Rattle.edf_check.proofs.parts.PartsVerdictFacts.{no-fault}
use Rattle.edf_pace.proofs.ForCallers.{more-with}
use Rattle.edf_samples.proofs.ForCallers.{not_before-before, same_above, same_back, both_same, from_below}
use Rattle.edf_check.proofs.NightFacts.{sound-head}

-- ---- the start of a file follows from its samples

-- an instant has one whole second
below : (p : Instant) (s t : ℤ) → 0 < p.den → IsSecondOf p s → IsSecondOf p t → s <ℤ (t +ℤ pos 1)
unfolding whole-at
below p s t some h i =
    let low = s *ℤ pos (10 ^ 12) in
    let high = (t +ℤ pos 1) *ℤ pos (10 ^ 12) in
    let order : IsBefore (whole-at low) (whole-at high) = not_before-before (whole-at low) p (whole-at high) (omega arith) ((reached-at p low).0 h.reached) ((before-at p high).0 i.next_is_later) in
    let plain : (s *ℤ pos 1000000000000) <ℤ ((t +ℤ pos 1) *ℤ pos 1000000000000) = (let a = once low in let b = once high in omega (arith, ints, order, a, b)) in
    omega (arith, ints, plain)

one-second : (p : Instant) (s t : ℤ) → 0 < p.den → IsSecondOf p s → IsSecondOf p t → s ≡ t
one-second p s t some h i = let a = below p s t some h i in let b = below p t s some i h in omega (arith, ints, a, b)

same-self : (p : Instant) → IsSame p p
same-self p = refl

-- the least sample of the second file isn't later than one of the first
not-later : (a b : List ℕ) → Agree (ValueAt a) (ValueAt b) → (x y : SampleValue) → IsSample a (head_of a) x → ((z : SampleValue) → IsSample b (head_of b) z → IsNotBefore z.instant y.instant) → IsNotBefore x.instant y.instant
not-later a b agree x y is least =
    let some = is.in_lane in
    let twin = (agree x.label x.instant x.value (omega (arith, some))).0 (x, is, refl, same-self x.instant, refl) in
    let z = twin.0 in
    let few = (twin.1).in_lane in
    from_below x.instant z.instant y.instant (omega (arith, few)) (same_above x.instant z.instant (same_back z.instant x.instant twin.3)) (least z twin.1)

same-start : (a b : List ℕ) → HoldTheSame a b → start_second (head_of a) ≡ start_second (head_of b)
same-start a b s =
    let p = start_is_of_least a (head_of a) s.first_conforms in
    let q = start_is_of_least b (head_of b) s.second_conforms in
    let x = p.0 in
    let y = q.0 in
    let px = ((p.1).sample).in_lane in
    let py = ((q.1).sample).in_lane in
    let same = both_same x.instant y.instant (not-later a b s.samples x y (p.1).sample (q.1).least) (not-later b a (agree-back (ValueAt a) (ValueAt b) s.samples) y x (q.1).sample (p.1).least) in
    one-second x.instant (start_second (head_of a)) (start_second (head_of b)) (omega (arith, px)) (p.1).second
    (same-second x.instant y.instant (start_second (head_of b)) (omega (arith, px)) (omega (arith, py)) same (q.1).second)

same-origin : (a b : List ℕ) → HoldTheSame a b → origin_of a ≡ origin_of b
same-origin a b s = ap (λ t. t *ℤ pos (10 ^ 12)) (same-start a b s)

-- ---- what is kept and exported

kept-agree : (o o' : List ℕ) (c : ClaimValue) → HoldTheSame o o' → Agree (KeptAt o c) (KeptAt o' c)
kept-agree o o' c s l t v p =
    let same = same-origin o o' s in (
      λ h. (h.0, h.1, (s.samples l (later (origin_of o') t) v p).0 (subst (λ z. ValueAt o l (later z t) v) same h.2)),
      λ h. (h.0, h.1, subst (λ z. ValueAt o l (later z t) v) (sym same) ((s.samples l (later (origin_of o') t) v p).1 h.2)),
    )

exported-agree : (o e o' e' : List ℕ) (c : ClaimValue) → HoldTheSame o o' → HoldTheSame e e' → Agree (ExportedAt o e c) (ExportedAt o' e' c)
exported-agree o e o' e' c s r l t v p =
    let same = same-origin o o' s in (
      λ h. (r.samples l (later (origin_of o' +ℤ shift_ps c) t) v p).0 (subst (λ z. ValueAt e l (later (z +ℤ shift_ps c) t) v) same h),
      λ h. subst (λ z. ValueAt e l (later (z +ℤ shift_ps c) t) v) (sym same) ((r.samples l (later (origin_of o' +ℤ shift_ps c) t) v p).1 h),
    )

-- how often an annotation stands among those that pass a test, as a sum over all
weight : (NoteValue → Bool) → (NoteValue → NoteValue) → NoteValue → NoteValue → ℕ
weight test f n x = cond (test x) (cond (is_eq (note_cmp (f x) n)) 1 0) 0

none-more : (k : ℕ) → k ≡ 0 + k
none-more k = omega arith

passed-times : (test : NoteValue → Bool) (f : NoteValue → NoteValue) (xs : List NoteValue) (n : NoteValue) → times (map f (filter test xs)) n ≡ sum_by (weight test f n) xs
unfolding weight
passed-times test f [] n = refl
passed-times test f (x ∷ xs) n = cases (test x) (passed-times test f xs n) ∙ sym (sum_by-cons (weight test f n) x xs)
  where
    cases : (b : Bool) → times (map f (filter test xs)) n ≡ sum_by (weight test f n) xs → times (map f (cond b (x ∷ filter test xs) (filter test xs))) n ≡ cond b (cond (is_eq (note_cmp (f x) n)) 1 0) 0 + sum_by (weight test f n) xs
    cases true e = sum_by-cons (λ other. cond (is_eq (note_cmp other n)) 1 0) (f x) (map f (filter test xs)) ∙ ap (λ k. cond (is_eq (note_cmp (f x) n)) 1 0 + k) e
    cases false e = e ∙ none-more (sum_by (weight test f n) xs)

passed-same : (test : NoteValue → Bool) (f : NoteValue → NoteValue) (xs ys : List NoteValue) → IsPermutation xs ys → (n : NoteValue) → times (map f (filter test xs)) n ≡ times (map f (filter test ys)) n
passed-same test f xs ys p n = passed-times test f xs n ∙ sym (sum_by-IsPermutation (weight test f n) xs ys p) ∙ sym (passed-times test f ys n)

kept-notes-same : (o o' : List ℕ) (c : ClaimValue) → HoldTheSame o o' → (n : NoteValue) → times (kept_notes o c) n ≡ times (kept_notes o' c) n
kept-notes-same o o' c s n =
    let test : NoteValue → Bool = λ note. keeps_annotation c note.onset note.text in
    ap (λ z. times (kept_of c (map (moved_by (neg_ℤ z)) (notes_of o (head_of o)))) n) (same-origin o o' s)
    ∙ passed-same test (as_kept c) (map (moved_by (neg_ℤ (origin_of o'))) (notes_of o (head_of o))) (map (moved_by (neg_ℤ (origin_of o'))) (notes_of o' (head_of o')))
    (IsPermutation-map (moved_by (neg_ℤ (origin_of o'))) (notes_of o (head_of o)) (notes_of o' (head_of o')) s.notes) n

exported-notes-same : (o e o' e' : List ℕ) (c : ClaimValue) → HoldTheSame o o' → HoldTheSame e e' → (n : NoteValue) → times (exported_notes o e c) n ≡ times (exported_notes o' e' c) n
exported-notes-same o e o' e' c s r n =
    let moved : ℤ → NoteValue → NoteValue = λ z. moved_by (neg_ℤ (z +ℤ shift_ps c)) in
    ap (λ z. times (map (moved z) (notes_of e (head_of e))) n) (same-origin o o' s)
    ∙ sym (sum_by-IsPermutation (λ other. cond (is_eq (note_cmp other n)) 1 0) (map (moved (origin_of o')) (notes_of e (head_of e))) (map (moved (origin_of o')) (notes_of e' (head_of e')))
    (IsPermutation-map (moved (origin_of o')) (notes_of e (head_of e)) (notes_of e' (head_of e')) r.notes))

-- ---- the verdict

same-length : {X : Type 0} (xs ys : List X) → IsPermutation xs ys → length xs ≡ length ys
same-length xs ys p = sym (length_permutation xs ys p)

pairs-of : (o e o' e' : List ℕ) → HoldTheSame o o' → HoldTheSame e e' → AreSamePairs (head_of o) (head_of e) (head_of o') (head_of e')
pairs-of o e o' e' s r = record {
  original = s.heads;
  export = r.heads;
  original_sound = sound-head o s.first_conforms;
  export_sound = sound-head e r.first_conforms;
  other_original_sound = sound-head o' s.second_conforms;
  other_export_sound = sound-head e' r.second_conforms;
}

carried : (o e o' e' : List ℕ) (c : ClaimValue) (v : Verdict) → HoldTheSame o o' → HoldTheSame e e' → AreBlankAlike (head_of e) (head_of e') → IsVerdict o e c v → IsVerdict o' e' c v
carried o e o' e' c v s r b = by-kind v
  where
    both : BothConform o' e'
    both = record { original_conforms = s.second_conforms; export_conforms = r.second_conforms }

    heads : (w : Verdict) → IsHeadVerdict (head_of o) (head_of e) c w → IsHeadVerdict (head_of o') (head_of e') c w
    heads w = head_verdict_carried (head_of o) (head_of e) (head_of o') (head_of e') (pairs-of o e o' e' s r) b c w

    agree : HeadsAgree (head_of o) (head_of e) c → HeadsAgree (head_of o') (head_of e') c
    agree = agree_carried (head_of o) (head_of e) (head_of o') (head_of e') (pairs-of o e o' e' s r) b c

    kept : Agree (KeptAt o c) (KeptAt o' c)
    kept = kept-agree o o' c s

    exported : Agree (ExportedAt o e c) (ExportedAt o' e' c)
    exported = exported-agree o e o' e' c s r

    samples : SameSamples o e c → SameSamples o' e' c
    samples h = agree-alike (KeptAt o c) (KeptAt o' c) (ExportedAt o e c) (ExportedAt o' e' c) kept exported h

    by-kind : (v : Verdict) → IsVerdict o e c v → IsVerdict o' e' c v
    by-kind (Yes channels m n) h =
        let x = h.1 in
        let y = h.2 in (
          both,
          record {
            heads = agree x.heads;
            samples = samples x.samples;
            notes = λ note. sym (kept-notes-same o o' c s note) ∙ x.notes note ∙ exported-notes-same o e o' e' c s r note;
          },
          record {
            channels_are = y.channels_are ∙ sym (length-map (channels_among (head_of e).signals) (λ (z : SignalHead). z.label)) ∙ same-length (channel_labels (head_of e).signals) (channel_labels (head_of e').signals) (r.heads).channels
                ∙ length-map (channels_among (head_of e').signals) (λ (z : SignalHead). z.label);
            samples_are = y.samples_are ∙ r.as_many;
            annotations_are = y.annotations_are ∙ same-length (notes_of e (head_of e)) (notes_of e' (head_of e')) r.notes;
          },
        )
    by-kind (No (differences.OriginalFault fault)) h = absurd (no-fault o fault h (faultless_part o s.first_conforms))
    by-kind (No (differences.ExportFault fault)) h = absurd (no-fault e fault h.1 (faultless_part e r.first_conforms))
    by-kind (No differences.PartOrder) h = h
    by-kind (No (differences.Sample label at_ps mismatch)) h =
        (both, agree h.1, first-alike (KeptAt o c) (KeptAt o' c) (ExportedAt o e c) (ExportedAt o' e' c) kept exported label at_ps mismatch h.2)
    by-kind (No (differences.Annotation mismatch onset duration text)) h =
        let note : NoteValue = record { onset = onset; duration = duration; text = text } in
        let f = h.3 in
        let p = kept-notes-same o o' c s note in
        let q = exported-notes-same o e o' e' c s r note in (
          both,
          agree h.1,
          samples h.2,
          record {
            differ = more-with mismatch (times (kept_notes o c) note) (times (exported_notes o e c) note) 0 (times (kept_notes o' c) note) (times (exported_notes o' e' c) note) (omega (arith, p)) (omega (arith, q)) f.differ;
            least = λ other l. sym (kept-notes-same o o' c s other) ∙ f.least other l ∙ exported-notes-same o e o' e' c s r other;
          },
        )
    by-kind v h = (both, heads v h.1)

-- a file holds the same as itself
itself : (file : List ℕ) → Conforms file (head_of file) → HoldTheSame file file
itself file c = record {
  first_conforms = c;
  second_conforms = c;
  heads = same-heads-self (head_of file) (sound-head file c);
  samples = λ l t v p. (λ h. h, λ h. h);
  as_many = refl;
  notes = IsPermutation-refl (notes_of file (head_of file));
}

pub any_cut_of_export : AnyCutOfExport
any_cut_of_export o e e' c (No (differences.OriginalFault fault)) r b h = h
any_cut_of_export o e e' c (No (differences.ExportFault fault)) r b h = absurd (no-fault e fault h.1 (faultless_part e r.first_conforms))
any_cut_of_export o e e' c (No differences.PartOrder) r b h = h
any_cut_of_export o e e' c v r b h = carried o e o e' c v (itself o (h.0).original_conforms) r b h

pub any_cut_of_original : AnyCutOfOriginal
any_cut_of_original o o' e c (No (differences.OriginalFault fault)) s h = absurd (no-fault o fault h (faultless_part o s.first_conforms))
any_cut_of_original o o' e c (No (differences.ExportFault fault)) s h = (faultless_part o' s.second_conforms, h.1)
any_cut_of_original o o' e c (No differences.PartOrder) s h = h
any_cut_of_original o o' e c v s h =
    carried o e o' e c v s (itself e (h.0).export_conforms) (blank-alike-self (head_of e) (sound-head e (h.0).export_conforms)) h
