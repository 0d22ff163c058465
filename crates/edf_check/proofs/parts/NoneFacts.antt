-- Nothing is counted exactly where the samples are as claimed, and nothing is found exactly where the answer is Yes.
use Rattle.std.proofs.Common.{◌≡◌, ◌↔◌, ℕ, zero, suc, ◌<◌, ℤ, neg_ℤ, ◌^◌, Bor, List, [], ◌∷◌, length, map, Option, None, Some, slice_get, IfSome, inl, unsigned_abs, refl, sym, arith, subst}
use Rattle.std.proofs.lemmas.List.{length-map}
use Rattle.std.specs.Option.{option_or}
use Rattle.edf_claim.specs.ClaimValues.{ClaimValue}
use Rattle.edf_fields.specs.Lists.{Has}
use Rattle.edf_header.specs.Heads.{Head}
use Rattle.edf_header.specs.HeadsReading.{head_of}
use Rattle.edf_samples.specs.declared.earliest.Found.{Found}
use Rattle.edf_pace.specs.walk.Counting.{span_tallies}
use Rattle.edf_pace.specs.walk.Watching.{ExportCount, two_files}
use Rattle.edf_samples.specs.InstantOrder.{floor_of}
use Rattle.edf_pace.specs.walk.Pairs.{places_in}
use Rattle.edf_pace.specs.walk.Readings.{beginning}
use Rattle.edf_pace.specs.walk.Shown.{last_end_by}
use Rattle.edf_pace.specs.walk.Windows.{is_last, sampled, span_difference}
use Rattle.edf_pace.proofs.ForCallers.{found_among, none_in_span, none_of_each}
use Rattle.edf_check.specs.Courses.{Agree}
use Rattle.edf_check.specs.KeptReading.{KeptAt, origin_of}
use Rattle.edf_check.specs.parts.Counted.{AreCounted, HasNothing, serial_counts}
use Rattle.edf_check.specs.Laws.{NothingIsFound}
use Rattle.edf_check.specs.parts.Parts.{AllConform, AreTogether, ExportedByOne, FollowOneAnother}
use Rattle.edf_heads.specs.HeadVerdicts.{HeadsAgree, IsBroken}
use Rattle.edf_heads.proofs.ForCallers.{none-broken, nothing_is_broken}
use Rattle.edf_verdict.specs.declared.verdict.Difference.{Difference}
use Rattle.edf_check.specs.parts.PartsFound.{AreOrdered}
use Rattle.edf_check.specs.parts.PartsVerdicts.{AllAgreed}
use Rattle.edf_check.specs.parts.Together.{serial_difference}
use Rattle.edf_claim.specs.Claims.{IsClaim}
use Rattle.edf_stream.proofs.ForCallers.{sound-of}
use Rattle.std.proofs.lemmas.Int.{ints}
use Rattle.edf_check.proofs.CourseFacts.{first-apart}
use Rattle.edf_check.proofs.ProductFacts.{shift-small}
use Rattle.edf_check.proofs.parts.OnePartsVerdictFacts.{from-first, ordered-course, yes_together}
use Rattle.edf_check.proofs.parts.SerialFacts.{serial_later}
use Rattle.edf_check.proofs.parts.SeriesFacts.{IsFirst, moved_part, parts_first}
use Rattle.edf_check.proofs.parts.TogetherFacts.{before-all, from-beginning}

none-of-both : {X : Type 0} (x y : Option X) → option_or x y ≡ None → (x ≡ None) × (y ≡ None)
none-of-both None y e = (refl, e)
none-of-both (Some x) y e = absurd (let z : Some x ≡ None = e in cc)

none-or : {X : Type 0} (x y : Option X) → x ≡ None → y ≡ None → option_or x y ≡ None
none-or x y a b = rw (a, b) refl

-- of parts of which none begins early there is no first difference exactly where nothing is counted
none-counted : (claim : ClaimValue) (o : List ℕ) (h : Head) (a b : ℤ) (labels : List (Bor (List ℕ))) (t : ℤ) (parts : List (List ℕ)) → AreOrdered b t parts
    → (serial_difference claim o h a b labels t parts ≡ None) ↔ HasNothing (serial_counts claim o h a b labels t parts)
none-counted claim o h a b labels t [] ordered = (λ e. tt, λ n. refl)
none-counted claim o h a b labels t (part ∷ parts) ordered =
    let v = last_end_by part (head_of part) b in
    let here = none_in_span (is_last parts) claim (sampled o h a) (sampled part (head_of part) b) (places_in h (head_of part) labels) t v in
    let none = none_of_each (two_files o h part (head_of part)) a b (span_tallies (is_last parts) claim (sampled o h a) (sampled part (head_of part) b) (places_in h (head_of part) labels) t v) in
    let there = none-counted claim o h a b labels v parts ordered.1 in
    let all = serial_later claim o h a b labels t part parts ordered.0 in (
      λ e. subst HasNothing (sym all) (let both = none-of-both (span_difference (is_last parts) claim (sampled o h a) (sampled part (head_of part) b) (places_in h (head_of part) labels) t v) (serial_difference claim o h a b labels v parts) e in (none.1 (here.0 both.0), there.0 both.1)),
      λ n. (let each = subst HasNothing all n in none-or (span_difference (is_last parts) claim (sampled o h a) (sampled part (head_of part) b) (places_in h (head_of part) labels) t v) (serial_difference claim o h a b labels v parts) (here.1 (none.0 each.0)) (there.1 each.1)),
    )

or-among : (x y : Option Found) (n : ℕ) → IfSome x (λ f. f.channel < n) → IfSome y (λ f. f.channel < n) → IfSome (option_or x y) (λ f. f.channel < n)
or-among None y n a b = b
or-among (Some f) y n a b = a

-- the first difference is one of a label's channels
serial-among : (claim : ClaimValue) (o : List ℕ) (h : Head) (a b : ℤ) (labels : List (Bor (List ℕ))) (t : ℤ) (parts : List (List ℕ)) → IfSome (serial_difference claim o h a b labels t parts) (λ f. f.channel < length labels)
serial-among claim o h a b labels t [] = tt
serial-among claim o h a b labels t (part ∷ parts) =
    let v = last_end_by part (head_of part) b in
    let here = found_among (is_last parts) claim (sampled o h a) (sampled part (head_of part) b) (places_in h (head_of part) labels) t v in
    or-among (span_difference (is_last parts) claim (sampled o h a) (sampled part (head_of part) b) (places_in h (head_of part) labels) t v) (serial_difference claim o h a b labels v parts) (length labels)
    (subst (λ n. IfSome (span_difference (is_last parts) claim (sampled o h a) (sampled part (head_of part) b) (places_in h (head_of part) labels) t v) (λ f. f.channel < n)) (length-map labels _) here)
    (serial-among claim o h a b labels v parts)

there-at : {X : Type 0} (xs : List X) (k : ℕ) → k < length xs → (x : X) × (slice_get xs k ≡ Some x)
there-at [] k lt = absurd (omega (arith, lt))
there-at (x ∷ xs) zero lt = (x, refl)
there-at (x ∷ xs) (suc k) lt = there-at xs k (omega (arith, lt))

-- of parts that follow one another none begins early, the first one neither
pub ordered_parts : (o : List ℕ) (parts : List (List ℕ)) (claim : ClaimValue) → IsClaim claim → AllConform o parts → FollowOneAnother parts → AreOrdered (moved_part o claim) beginning parts
ordered_parts o [] claim sound all follow = tt
ordered_parts o (part ∷ parts) claim sound all follow = from-first o claim beginning part parts follow (from-beginning part (moved_part o claim) (all.parts_conform part (inl refl)) near)
  where
    near : unsigned_abs (moved_part o claim) < 2 ^ 80
    near =
        let day = ((sound-of o (head_of o) all.original_conforms).bounds).near in
        let shift = shift-small claim sound in
        omega (arith, ints, day, shift)

pub nothing_counted : (o : List ℕ) (parts : List (List ℕ)) (claim : ClaimValue) (counts : List ExportCount) → IsClaim claim → 0 < length parts → AllAgreed o parts claim → FollowOneAnother parts → AreCounted o parts claim [] counts
    → HasNothing counts ↔ Agree (KeptAt o claim) (ExportedByOne o parts claim)
nothing_counted o [] claim counts sound some all follow c = absurd (omega (arith, some))
nothing_counted o (part ∷ parts) claim counts sound some all follow c = (
  λ none. (let is : first ≡ None = (none-counted claim o (head_of o) (neg_ℤ (origin_of o)) (moved_part o claim) labels beginning (part ∷ parts) ordered).1 (subst HasNothing c.are none) in subst (IsFirst (KeptAt o claim) (ExportedByOne o (part ∷ parts) claim) labels) is found),
  λ agree. subst HasNothing (sym c.are) ((none-counted claim o (head_of o) (neg_ℤ (origin_of o)) (moved_part o claim) labels beginning (part ∷ parts) ordered).0 (by agree first refl)),
)
  where
    labels : List (Bor (List ℕ))
    labels = c.labels

    first : Option Found
    first = serial_difference claim o (head_of o) (neg_ℤ (origin_of o)) (moved_part o claim) labels beginning (part ∷ parts)

    ordered : AreOrdered (moved_part o claim) beginning (part ∷ parts)
    ordered = ordered_parts o (part ∷ parts) claim sound all.conform follow

    found : IsFirst (KeptAt o claim) (ExportedByOne o (part ∷ parts) claim) labels first
    found =
        let conform = (all.conform).parts_conform in
        parts_first o claim labels beginning part parts (all.conform).original_conforms conform all.agree c.sorted ordered (before-all o beginning (all.conform).original_conforms refl)

    by : Agree (KeptAt o claim) (ExportedByOne o (part ∷ parts) claim) → (f : Option Found) → first ≡ f → first ≡ None
    by agree None e = e
    by agree (Some f) e =
        let lt = subst (λ x. IfSome x (λ g. g.channel < length labels)) e (serial-among claim o (head_of o) (neg_ℤ (origin_of o)) (moved_part o claim) labels beginning (part ∷ parts)) in
        let at = there-at (map (λ l. l.now) labels) f.channel (subst (λ n. f.channel < n) (sym (length-map labels _)) lt) in
        let mismatch = subst (IsFirst (KeptAt o claim) (ExportedByOne o (part ∷ parts) claim) labels) e found at.0 at.1 in
        absurd (first-apart (KeptAt o claim) (ExportedByOne o (part ∷ parts) claim) at.0 (floor_of f.difference.at) f.difference.mismatch (ordered-course o claim (part ∷ parts) (all.conform).parts_conform follow) agree mismatch)

-- no rule is broken exactly where the headers agree
heads-agree : (o : List ℕ) (parts : List (List ℕ)) (claim : ClaimValue) → IsClaim claim → AllConform o parts → (part : List ℕ) → Has parts part
    → ((rule : Difference) → IsBroken (head_of o) (head_of part) claim rule → ⊥) ↔ HeadsAgree (head_of o) (head_of part) claim
heads-agree o parts claim is all part has = (
  λ none. (nothing_is_broken (head_of o) (head_of part) claim [] (sound-of o (head_of o) all.original_conforms) (sound-of part (head_of part) (all.parts_conform part has)) is (λ rule. (λ x. absurd x, λ x. absurd (none rule x)))).0 refl,
  λ agree rule x. none-broken (head_of o) (head_of part) claim agree rule x,
)

pub nothing_found : NothingIsFound
nothing_found o parts claim counts v is some all verdict counted = (
  λ found.
      let agreed : AllAgreed o parts claim = record { conform = all; agree = λ part has. (heads-agree o parts claim is all part has).0 (λ rule. found.heads part rule has) } in
      (yes_together o parts claim v verdict).0 (
        all,
        record {
          heads = agreed.agree;
          order = found.order;
          samples = (nothing_counted o parts claim counts is some agreed found.order counted).0 found.samples;
          notes = found.notes;
        },
      ),
  λ yes.
      let z = (yes_together o parts claim v verdict).1 yes in
      let together : AreTogether o parts claim = z.1 in
      let agreed : AllAgreed o parts claim = record { conform = all; agree = together.heads } in
      record {
        heads = λ part rule has. (heads-agree o parts claim is all part has).1 (together.heads part has) rule;
        order = together.order;
        samples = (nothing_counted o parts claim counts is some agreed together.order counted).1 together.samples;
        notes = together.notes;
      },
)
