-- Nothing is counted exactly where all channels are as claimed, and nothing is found exactly where the answer is Yes.
use Rattle.std.proofs.Common.{◌≡◌, ◌≢◌, ◌↔◌, ◌⊎◌, ◌∙◌, ◌+◌, ◌+ℤ◌, ◌==◌, ◌&&◌, ℕ, ℤ, neg_ℤ, zero, suc, Bor, Bool, true, false, List, [], ◌∷◌, MatchOption, Option, None, Some, is_some, option_map, map, length, slice_get, inl, inr, if◌then◌else◌, refl, sym, ap, arith, subst, eqb-true}
use Rattle.std.proofs.lemmas.List.{length-map}
use Rattle.std.specs.List.{AllByRecursion, list_all}
use Rattle.std.specs.List.Sorted.{IsPermutation}
use Rattle.std.proofs.lemmas.List.Sorted.{IsPermutation-sym, sum_by-IsPermutation}
use Rattle.edf_check.proofs.ForCallers.{nothing_found, ordered_parts, serial_later}
use Rattle.edf_check.specs.KeptReading.{kept_notes, origin_of}
use Rattle.edf_check.specs.Laws.{IsYes, NothingIsFoundIn}
use Rattle.edf_check.specs.parts.Counted.{AreCounted, HasNothing, IsWhole, count_of, serial_counts}
use Rattle.edf_check.specs.parts.Parts.{FollowOneAnother, exported_by_all}
use Rattle.edf_check.specs.parts.PartsFound.{AreOrdered}
use Rattle.edf_claim.specs.ClaimValues.{ClaimValue}
use Rattle.edf_fields.specs.Lists.{Has}
use Rattle.edf_fields.proofs.ForCallers.{and-true, at-has, has-at, has-permutation, map-has}
use Rattle.edf_header.specs.Heads.{Head}
use Rattle.edf_header.specs.HeadsReading.{head_of}
use Rattle.edf_heads.specs.Comparisons.{AreSorted}
use Rattle.edf_heads.specs.HeadVerdicts.{IsBroken}
use Rattle.edf_pace.specs.Annotations.{SameNotes, note_cmp, times}
use Rattle.edf_pace.proofs.ForCallers.{none_of_each, tallies_of}
use Rattle.edf_pace.specs.Kept.{shift_ps}
use Rattle.edf_pace.specs.walk.Columns.{Sampled, channel_at}
use Rattle.edf_pace.specs.walk.Counting.{differences_in, differences_since, span_tallies, span_counts}
use Rattle.edf_pace.specs.walk.Pairs.{Places, places_in}
use Rattle.edf_pace.specs.walk.Readings.{beginning}
use Rattle.edf_pace.specs.walk.Shown.{last_end_by}
use Rattle.edf_pace.specs.walk.Watching.{ExportCount, two_files}
use Rattle.edf_pace.specs.walk.Windows.{is_last, sampled}
use Rattle.edf_samples.specs.Tallies.{counted, is_changed, is_extra, is_missing, of_kind, tally_of}
use Rattle.edf_samples.specs.declared.difference.PointDifference.{PointDifference}
use Rattle.edf_samples.specs.declared.counts.tally.Tally.{Tally}
use Rattle.edf_stream.specs.Views.{note_value}
use Rattle.edf_stream.specs.annotation.Notes.{NoteValue}
use Rattle.std.specs.Ordering.{is_eq}
use Rattle.edf_verdict.specs.declared.verdict.SampleMismatch.{SampleMismatch}
use Rattle.edf_verdict.specs.declared.verdict.SampleMismatch.TheVariants.{Missing, Extra, Value}
use Rattle.edf_findings.specs.Exports.{channels_of, compared_channels, is_clean}
use Rattle.edf_findings.specs.Found.{AreFoundBy, AreFoundIn, IsFoundIn, counted_by, seen_in}
use Rattle.edf_findings.specs.Laws.{NoFindingIsYes}
use Rattle.edf_findings.specs.declared.looker.Looker.{Looker}
use Rattle.edf_findings.specs.declared.notes.both.Notes.{Notes}
use Rattle.edf_findings.specs.Told.{AreTold, IsToldAt, Seen, is_in_both, places_from}
use Rattle.edf_findings.specs.declared.part.ComparedPart.{ComparedPart}
use Rattle.edf_findings.specs.declared.part.PartFindings.{PartFindings}
use Rattle.edf_findings.specs.declared.part.ReadPart.{ReadPart}
use Rattle.edf_findings.specs.declared.samples.compared.ComparedChannel.{ComparedChannel}
use Rattle.edf_pace.specs.declared.walk.watchers.found_in.ChannelCount.{ChannelCount}
use Rattle.edf_findings.proofs.LabelFacts.{one-order}

-- ---- the tally of no difference

kept-front : (is : SampleMismatch → Bool) (d : PointDifference) (ds : List PointDifference) → is d.mismatch ≡ true → of_kind is (d ∷ ds) ≡ d ∷ of_kind is ds
kept-front is d ds e = rw e refl

some-counted : (d : PointDifference) (ds : List PointDifference) → (counted (d ∷ ds)).count ≢ 0
unfolding counted
some-counted d ds e = omega (arith, e)

kind-counted : (is : SampleMismatch → Bool) (d : PointDifference) (ds : List PointDifference) → is d.mismatch ≡ true → (counted (of_kind is (d ∷ ds))).count ≢ 0
kind-counted is d ds e none = some-counted d (of_kind is ds) (ap (λ xs. (counted xs).count) (sym (kept-front is d ds e)) ∙ none)

none-counted : (ds : List PointDifference) → (tally_of ds).missing.count ≡ 0 → (tally_of ds).extra.count ≡ 0 → (tally_of ds).changed.count ≡ 0 → ds ≡ []
unfolding tally_of
none-counted [] m e c = refl
none-counted (d ∷ ds) m e c = absurd (by d.mismatch refl)
  where
    by : (mismatch : SampleMismatch) → d.mismatch ≡ mismatch → ⊥
    by Missing is = kind-counted is_missing d ds (ap is_missing is) m
    by Extra is = kind-counted is_extra d ds (ap is_extra is) e
    by (Value v w) is = kind-counted is_changed d ds (ap is_changed is) c

nought : (tally_of []).missing.count ≡ 0
unfolding tally_of counted
nought = refl

nought-extra : (tally_of []).extra.count ≡ 0
unfolding tally_of counted
nought-extra = refl

nought-changed : (tally_of []).changed.count ≡ 0
unfolding tally_of counted
nought-changed = refl

-- ---- lists of which all pass

all-true : {X : Type 0} (p : X → Bool) (xs : List X) → ((x : X) → Has xs x → p x ≡ true) → list_all p xs ≡ true
all-true p [] each = refl
all-true p (x ∷ xs) each = rw (each x (inl refl), all-true p xs (λ y h. each y (inr h))) refl

each-true : {X : Type 0} (p : X → Bool) (xs : List X) → list_all p xs ≡ true → (x : X) → Has xs x → p x ≡ true
each-true p [] all x h = absurd h
each-true p (y ∷ ys) all x (inl e) = ap p (sym e) ∙ (and-true (p y) (list_all p ys) all).0
each-true p (y ∷ ys) all x (inr h) = each-true p ys (and-true (p y) (list_all p ys) all).1 x h

all-mapped : {X Y : Type 0} (f : X → Y) (P : Y → Type 0) (xs : List X) → ((x : X) → Has xs x → P (f x)) → AllByRecursion P (map f xs)
all-mapped f P [] each = tt
all-mapped f P (x ∷ xs) each = (each x (inl refl), all-mapped f P xs (λ y h. each y (inr h)))

all-there : {X : Type 0} (P : X → Type 0) (xs : List X) → AllByRecursion P xs → (x : X) → Has xs x → P x
all-there P [] all x h = absurd h
all-there P (y ∷ ys) all x (inl e) = subst P e all.0
all-there P (y ∷ ys) all x (inr h) = all-there P ys all.1 x h

mapped-has : {X Y : Type 0} (f : X → Y) (xs : List X) (x : X) → Has xs x → Has (map f xs) (f x)
mapped-has f (y ∷ ys) x (inl e) = inl (ap f e)
mapped-has f (y ∷ ys) x (inr h) = inr (mapped-has f ys x h)
mapped-has f [] x h = absurd h

mapped-at : {X Y : Type 0} (f : X → Y) (xs : List X) (at : ℕ) (x : X) → slice_get xs at ≡ Some x → slice_get (map f xs) at ≡ Some (f x)
mapped-at f [] at x is = absurd (let z : None ≡ Some x = is in cc)
mapped-at f (y ∷ ys) zero x is = (let z : Some y ≡ Some x = is in let e : y ≡ x = cc in ap (λ w. Some (f w)) e)
mapped-at f (y ∷ ys) (suc at) x is = mapped-at f ys at x is

-- ---- one export

-- a channel is as claimed where nothing was counted of it, and its tally is that of none where it is
told-clean : (t : Tally) (c : ComparedChannel) → t ≡ tally_of [] → c.missing.count ≡ t.missing.count → c.extra.count ≡ t.extra.count → c.changed.count ≡ t.changed.count → is_clean c ≡ true
told-clean t c is m e d =
    let one : c.missing.count ≡ 0 = m ∙ ap (λ (x : Tally). x.missing.count) is ∙ nought in
    let two : c.extra.count ≡ 0 = e ∙ ap (λ (x : Tally). x.extra.count) is ∙ nought-extra in
    let three : c.changed.count ≡ 0 = d ∙ ap (λ (x : Tally). x.changed.count) is ∙ nought-changed in
    rw (one, two, three) refl

clean-counts : (c : ComparedChannel) → is_clean c ≡ true → (c.missing.count ≡ 0) × (c.extra.count ≡ 0) × (c.changed.count ≡ 0)
clean-counts c e =
    let first = and-true ((c.missing.count == 0) && (c.extra.count == 0)) (c.changed.count == 0) e in
    let rest = and-true (c.missing.count == 0) (c.extra.count == 0) first.0 in
    (eqb-true c.missing.count 0 rest.0, eqb-true c.extra.count 0 rest.1, eqb-true c.changed.count 0 first.1)

listed-by : (h g : Head) (k : ℕ) (l : List ℕ) (ls : List (List ℕ)) (b : Bool) → is_in_both h g l ≡ b → places_from h g k (l ∷ ls) ≡ (if b then k ∷ places_from h g (k + 1) ls else places_from h g (k + 1) ls)
listed-by h g k l ls true e = rw e refl
listed-by h g k l ls false e = rw e refl

-- the place of a claimed label that both files have is among those that are told
pub place-told : (h g : Head) (k : ℕ) (labels : List (List ℕ)) (i : ℕ) (label : List ℕ) → slice_get labels i ≡ Some label → is_in_both h g label ≡ true → Has (places_from h g k labels) (k + i)
place-told h g k [] i label at both = absurd (let z : None ≡ Some label = at in cc)
place-told h g k (l ∷ ls) zero label at both =
    let is : l ≡ label = cc in
    let here : is_in_both h g l ≡ true = ap (is_in_both h g) is ∙ both in
    let all : places_from h g k (l ∷ ls) ≡ k ∷ places_from h g (k + 1) ls = listed-by h g k l ls true here in
    subst (λ xs. Has xs (k + 0)) (sym all) (inl (omega arith))
place-told h g k (l ∷ ls) (suc i) label at both =
    let rest = place-told h g (k + 1) ls i label at both in
    let moved : Has (places_from h g (k + 1) ls) (k + suc i) = subst (Has (places_from h g (k + 1) ls)) (omega arith) rest in
    by (is_in_both h g l) refl moved
  where
    by : (b : Bool) → is_in_both h g l ≡ b → Has (places_from h g (k + 1) ls) (k + suc i) → Has (places_from h g k (l ∷ ls)) (k + suc i)
    by true e there =
        let all : places_from h g k (l ∷ ls) ≡ k ∷ places_from h g (k + 1) ls = listed-by h g k l ls true e in
        subst (λ xs. Has xs (k + suc i)) (sym all) (inr there)
    by false e there =
        let all : places_from h g k (l ∷ ls) ≡ places_from h g (k + 1) ls = listed-by h g k l ls false e in
        subst (λ xs. Has xs (k + suc i)) (sym all) there

one-lacks : {X : Type 0} (x y : Option X) → (is_some x && is_some y) ≡ false → (x ≡ None) ⊎ (y ≡ None)
one-lacks None y e = inl refl
one-lacks (Some x) None e = inr refl
one-lacks (Some x) (Some y) e = absurd (let z : true ≡ false = e in cc)

-- the tallies of labels, each by the places of its channels; there is no difference where a channel isn't there
module _ (D : Places → List PointDifference) (no-first : (p : Places) → p.0 ≡ None → D p ≡ []) (no-second : (p : Places) → p.1 ≡ None → D p ≡ [])
    (h g : Head) (claimed : List (List ℕ)) (labels others : List (Bor (List ℕ))) (sorted : AreSorted claimed labels) (also : AreSorted claimed others) where
  abbrev places_at : List ℕ → Places
  places_at label = (channel_at label h, channel_at label g)

  abbrev tally_at : List ℕ → Tally
  tally_at label = tally_of (D (places_at label))

  abbrev tally_by : Places → Tally
  tally_by p = tally_of (D p)

  abbrev tallies : List Tally
  tallies = map tally_by (places_in h g labels)

  abbrev IsNone : Tally → Type 0
  IsNone t = t ≡ tally_of []

  tally-of-label : (xs : List (Bor (List ℕ))) (at : ℕ) (label : List ℕ) (t : Tally) → slice_get (map (λ b. b.now) xs) at ≡ Some label → slice_get (map tally_by (places_in h g xs)) at ≡ Some t → t ≡ tally_at label
  tally-of-label [] at label t there is = absurd (let z : None ≡ Some label = there in cc)
  tally-of-label (x ∷ xs) zero label t there is =
      let same : x.now ≡ label = cc in
      let this : tally_at x.now ≡ t = cc in
      sym this ∙ ap tally_at same
  tally-of-label (x ∷ xs) (suc at) label t there is = tally-of-label xs at label t there is

  abbrev seen : List ChannelCount → Seen
  seen counts = record { original = h; export = g; counts = counts }

  -- each tally is that of a count
  abbrev AreTalliesOf : List ChannelCount → Type 0
  AreTalliesOf counts = map (λ (count : ChannelCount). count.tally) counts ≡ tallies

  told-at : (counts : List ChannelCount) → AreTalliesOf counts → (at : ℕ) (count : ChannelCount) → slice_get counts at ≡ Some count → slice_get tallies at ≡ Some count.tally
  told-at counts are at count is = ap (λ xs. slice_get xs at) (sym are) ∙ mapped-at (λ (x : ChannelCount). x.tally) counts at count is

  told-tally : (counts : List ChannelCount) → AreTalliesOf counts → (label : List ℕ) (c : ComparedChannel) (told : IsToldAt others (seen counts) label c) → (told.count).tally ≡ tally_at label
  told-tally counts of label c told =
      tally-of-label labels told.at label (told.count).tally (ap (λ xs. slice_get xs told.at) (one-order claimed labels others sorted also) ∙ told.label_is) (told-at counts of told.at told.count told.count_is)

  told-has : (counts : List ChannelCount) → AreTalliesOf counts → (label : List ℕ) (c : ComparedChannel) (told : IsToldAt others (seen counts) label c) → Has tallies (told.count).tally
  told-has counts of label c told = has-at tallies told.at (told.count).tally (told-at counts of told.at told.count told.count_is)

  clean-where-none : (counts : List ChannelCount) → AreTalliesOf counts → (channels : List ComparedChannel) → AreTold claimed others (seen counts) channels → AllByRecursion IsNone tallies → list_all is_clean channels ≡ true
  clean-where-none counts of channels are none = all-true is_clean channels (λ c has.
      let told = (are.each c has).2 in
      let t = told.told in
      told-clean (told.count).tally c (all-there IsNone tallies none (told.count).tally (told-has counts of (are.each c has).0 c told)) (t.0).0 (t.1).0 (t.2).0)

  none-where-clean : (counts : List ChannelCount) → AreTalliesOf counts → (channels : List ComparedChannel) → AreTold claimed others (seen counts) channels → list_all is_clean channels ≡ true → AllByRecursion IsNone tallies
  none-where-clean counts of channels are clean =
      all-mapped tally_by IsNone (places_in h g labels) (λ p has.
      let at = map-has (λ (label : Bor (List ℕ)). (channel_at label.now h, channel_at label.now g)) labels p has in
      subst (λ (q : Places). tally_by q ≡ tally_of []) at.2 (by at.0 at.1 (is_in_both h g (at.0).now) refl))
    where
      by : (label : Bor (List ℕ)) → Has labels label → (b : Bool) → is_in_both h g label.now ≡ b → tally_at label.now ≡ tally_of []
      by label has false apart = ap tally_of (elim (one-lacks (channel_at label.now h) (channel_at label.now g) apart) [
        | inl e ↦ no-first (places_at label.now) e
        | inr e ↦ no-second (places_at label.now) e
      ])
      by label has true both =
          let texts = map (λ (b : Bor (List ℕ)). b.now) labels in
          let in-claim : Has claimed label.now = has-permutation texts claimed label.now (IsPermutation-sym claimed texts sorted.all) (mapped-has (λ (b : Bor (List ℕ)). b.now) labels label has) in
          let place = at-has claimed label.now in-claim in
          let listed = place-told h g 0 claimed place.0 label.now place.1 both in
          let found = map-has (λ (c : ComparedChannel). c.place) channels (0 + place.0) (subst (λ xs. Has xs (0 + place.0)) (sym are.which) listed) in
          let c = found.0 in
          let each = are.each c found.1 in
          let told = each.2 in
          let k : c.place ≡ place.0 = (let z = found.2 in omega (arith, z)) in
          let same : each.0 ≡ label.now = (let e : Some each.0 ≡ Some label.now = sym each.1 ∙ ap (slice_get claimed) k ∙ place.1 in cc) in
          let tally : (told.count).tally ≡ tally_at label.now = told-tally counts of each.0 c told ∙ ap tally_at same in
          let none = clean-counts c (each-true is_clean channels clean c found.1) in
          let t = told.told in
          let m = ap (λ (z : Tally). z.missing.count) (sym tally) ∙ sym (t.0).0 ∙ none.0 in
          let e = ap (λ (z : Tally). z.extra.count) (sym tally) ∙ sym (t.1).0 ∙ none.1 in
          let d = ap (λ (z : Tally). z.changed.count) (sym tally) ∙ sym (t.2).0 ∙ none.2 in
          ap tally_of (none-counted (D (places_at label.now)) m e d)

  part-clean : (claim : ClaimValue) (o : Head) (part : ReadPart) (f : PartFindings) → o ≡ h → claim.channels ≡ claimed → part.header ≡ g → AreTalliesOf part.counts.items → IsFoundIn claim others o part f
      → AllByRecursion IsNone tallies ↔ (list_all is_clean (channels_of f) ≡ true)
  part-clean claim o part f is-head is-claim is-header are-tallies found =
      let many : length part.counts.items ≡ length others =
      sym (length-map part.counts.items (λ (count : ChannelCount). count.tally)) ∙ ap length are-tallies ∙ length-map (places_in h g labels) _ ∙ length-map labels _ ∙ sym (length-map labels (λ (b : Bor (List ℕ)). b.now)) ∙ ap length (one-order claimed labels others sorted also) ∙ length-map others (λ (b : Bor (List ℕ)). b.now)
      in
      by f.compared (found.channels many) refl
    where
      by : (compared : Option ComparedPart) → MatchOption compared ⊥ (λ compared. AreTold claim.channels others (seen_in o part) compared.channels.items) → f.compared ≡ compared
          → AllByRecursion IsNone tallies ↔ (list_all is_clean (channels_of f) ≡ true)
      by None m e = absurd m
      by (Some compared) m e =
          let cs = compared.channels.items in
          let counts = part.counts.items in
          let made : Head → Head → Seen = λ x y. record { original = x; export = y; counts = counts } in
          let are : AreTold claimed others (seen counts) cs =
          subst (λ x. AreTold x others (seen counts) cs) is-claim (subst (λ x. AreTold claim.channels others (made x g) cs) is-head
          (subst (λ x. AreTold claim.channels others (made o x) cs) is-header m))
          in
          let shown : channels_of f ≡ cs = ap compared_channels e in (
            λ none. ap (list_all is_clean) shown ∙ clean-where-none counts are-tallies cs are none,
            λ clean. none-where-clean counts are-tallies cs are (sym (ap (list_all is_clean) shown) ∙ clean),
          )

-- ---- several exports

-- each channel of each is as claimed
abbrev pub AreClean : List PartFindings → Type 0
AreClean fs = AllByRecursion (λ (f : PartFindings). list_all is_clean (channels_of f) ≡ true) fs

since-first : (claim : ClaimValue) (o e : Sampled) (t : ℤ) (p : Places) → p.0 ≡ None → differences_since claim o e t p.0 p.1 ≡ []
unfolding differences_since
since-first claim o e t (None, q) none = refl
since-first claim o e t (Some p, q) none = absurd (let z : Some p ≡ None = none in cc)

since-second : (claim : ClaimValue) (o e : Sampled) (t : ℤ) (p : Places) → p.1 ≡ None → differences_since claim o e t p.0 p.1 ≡ []
unfolding differences_since
since-second claim o e t (None, q) none = refl
since-second claim o e t (Some p, None) none = refl
since-second claim o e t (Some p, Some q) none = absurd (let z : Some q ≡ None = none in cc)

in-first : (claim : ClaimValue) (o e : Sampled) (t u : ℤ) (p : Places) → p.0 ≡ None → differences_in claim o e t u p.0 p.1 ≡ []
unfolding differences_in
in-first claim o e t u (None, q) none = refl
in-first claim o e t u (Some p, q) none = absurd (let z : Some p ≡ None = none in cc)

in-second : (claim : ClaimValue) (o e : Sampled) (t u : ℤ) (p : Places) → p.1 ≡ None → differences_in claim o e t u p.0 p.1 ≡ []
unfolding differences_in
in-second claim o e t u (None, q) none = refl
in-second claim o e t u (Some p, None) none = refl
in-second claim o e t u (Some p, Some q) none = absurd (let z : Some q ≡ None = none in cc)

one-clean : (last : Bool) (claim : ClaimValue) (x y : Sampled) (t u : ℤ) (h g : Head) (labels others : List (Bor (List ℕ))) (part : ReadPart) (f : PartFindings) → AreSorted claim.channels labels → AreSorted claim.channels others
    → part.header ≡ g → map (λ (count : ChannelCount). count.tally) part.counts.items ≡ span_tallies last claim x y (places_in h g labels) t u → IsFoundIn claim others h part f
    → AllByRecursion (λ (tally : Tally). tally ≡ tally_of []) (span_tallies last claim x y (places_in h g labels) t u) ↔ (list_all is_clean (channels_of f) ≡ true)
one-clean true claim x y t u h g labels others part f sorted also header tallies found =
    part-clean (λ (p : Places). differences_since claim x y t p.0 p.1) (since-first claim x y t) (since-second claim x y t) h g claim.channels labels others sorted also claim h part f refl refl header tallies found
one-clean false claim x y t u h g labels others part f sorted also header tallies found =
    part-clean (λ (p : Places). differences_in claim x y t u p.0 p.1) (in-first claim x y t u) (in-second claim x y t u) h g claim.channels labels others sorted also claim h part f refl refl header tallies found

abbrev count_in : ReadPart → ExportCount
count_in part = record { head = part.header; counts = part.counts.items }

-- of exports of which none begins early nothing was counted exactly where all channels of all of them are as claimed
pub all-clean : (claim : ClaimValue) (o : List ℕ) (h : Head) (a b : ℤ) (labels others : List (Bor (List ℕ))) (t : ℤ) (parts : List (List ℕ)) (ps : List ReadPart) (fs : List PartFindings) → AreSorted claim.channels labels → AreSorted claim.channels others
    → AreOrdered b t parts → map count_in ps ≡ serial_counts claim o h a b labels t parts → AreFoundIn claim others h ps fs → HasNothing (serial_counts claim o h a b labels t parts) ↔ AreClean fs
all-clean claim o h a b labels others t [] [] [] sorted also order e are = (λ n. tt, λ n. tt)
all-clean claim o h a b labels others t [] [] (f ∷ fs) sorted also order e are = absurd are
all-clean claim o h a b labels others t [] (p ∷ ps) fs sorted also order e are = absurd (let z : count_in p ∷ map count_in ps ≡ [] = e in cc)
all-clean claim o h a b labels others t (part ∷ parts) [] fs sorted also order e are = absurd (let z : [] ≡ _ ∷ _ = e ∙ serial_later claim o h a b labels t part parts order.0 in cc)
all-clean claim o h a b labels others t (part ∷ parts) (p ∷ ps) [] sorted also order e are = absurd are
all-clean claim o h a b labels others t (part ∷ parts) (p ∷ ps) (f ∷ fs) sorted also order e are =
    let v = last_end_by part (head_of part) b in
    let tallies = span_tallies (is_last parts) claim (sampled o h a) (sampled part (head_of part) b) (places_in h (head_of part) labels) t v in
    let counts = span_counts (is_last parts) claim (two_files o h part (head_of part)) a b (places_in h (head_of part) labels) t v in
    let whole = serial_later claim o h a b labels t part parts order.0 in
    let all : count_in p ∷ map count_in ps ≡ count_of part counts ∷ serial_counts claim o h a b labels v parts = e ∙ whole in
    let first : count_in p ≡ count_of part counts = cc in
    let later : map count_in ps ≡ serial_counts claim o h a b labels v parts = cc in
    let same : map (λ (count : ChannelCount). count.tally) p.counts.items ≡ tallies =
    ap (λ (x : ExportCount). map (λ (count : ChannelCount). count.tally) x.counts) first ∙ tallies_of (two_files o h part (head_of part)) a b tallies in
    let none = none_of_each (two_files o h part (head_of part)) a b tallies in
    let here = one-clean (is_last parts) claim (sampled o h a) (sampled part (head_of part) b) t v h (head_of part) labels others p f sorted also (ap (λ (x : ExportCount). x.head) first) same are.0 in
    let rest = all-clean claim o h a b labels others v parts ps fs sorted also order.1 later are.1 in
    (λ n. (let each = subst HasNothing whole n in (here.0 (none.0 each.0), rest.0 each.1)), λ n. subst HasNothing (sym whole) (none.1 (here.1 n.0), rest.1 n.1))

-- and the headers are those of the exports
pub heads-are : (claim : ClaimValue) (o : List ℕ) (h k : Head) (a b : ℤ) (labels others : List (Bor (List ℕ))) (t : ℤ) (parts : List (List ℕ)) (ps : List ReadPart) (fs : List PartFindings)
    → AreOrdered b t parts → map count_in ps ≡ serial_counts claim o h a b labels t parts → AreFoundIn claim others k ps fs → map (λ (f : PartFindings). f.header) fs ≡ map head_of parts
heads-are claim o h k a b labels others t [] [] [] order e are = refl
heads-are claim o h k a b labels others t [] [] (f ∷ fs) order e are = absurd are
heads-are claim o h k a b labels others t [] (p ∷ ps) fs order e are = absurd (let z : count_in p ∷ map count_in ps ≡ [] = e in cc)
heads-are claim o h k a b labels others t (part ∷ parts) [] fs order e are = absurd (let z : [] ≡ _ ∷ _ = e ∙ serial_later claim o h a b labels t part parts order.0 in cc)
heads-are claim o h k a b labels others t (part ∷ parts) (p ∷ ps) [] order e are = absurd are
heads-are claim o h k a b labels others t (part ∷ parts) (p ∷ ps) (f ∷ fs) order e are =
    let v = last_end_by part (head_of part) b in
    let counts = span_counts (is_last parts) claim (two_files o h part (head_of part)) a b (places_in h (head_of part) labels) t v in
    let all : count_in p ∷ map count_in ps ≡ count_of part counts ∷ serial_counts claim o h a b labels v parts = e ∙ serial_later claim o h a b labels t part parts order.0 in
    let first : count_in p ≡ count_of part counts = cc in
    let later : map count_in ps ≡ serial_counts claim o h a b labels v parts = cc in
    let here : f.header ≡ head_of part = (are.0).header ∙ ap (λ (x : ExportCount). x.head) first in
    ap (λ (x : Head). x ∷ map (λ (g : PartFindings). g.header) fs) here ∙ ap (λ xs. head_of part ∷ xs) (heads-are claim o h k a b labels others v parts ps fs order.1 later are.1)

-- annotations in another order are the same
same-permuted : (xs ys zs ws : List NoteValue) → IsPermutation xs zs → IsPermutation ys ws → SameNotes xs ys ↔ SameNotes zs ws
same-permuted xs ys zs ws p q = (λ s n. one xs zs p n ∙ s n ∙ sym (one ys ws q n), λ s n. sym (one xs zs p n) ∙ s n ∙ one ys ws q n)
  where
    one : (us vs : List NoteValue) → IsPermutation us vs → (n : NoteValue) → times vs n ≡ times us n
    one us vs r n = sum_by-IsPermutation (λ other. if is_eq (note_cmp other n) then 1 else 0) us vs r

pub no_finding : NoFindingIsYes
no_finding o parts claim found v is some conform follow verdict from = (
  λ none. law.0 (record {
    heads = λ part rule has broken.
        let at = map-has (λ (f : PartFindings). f.header) found.parts.items (head_of part) (subst (λ hs. Has hs (head_of part)) (sym headers) (mapped-has head_of parts part has)) in
        none.heads at.0 rule at.1 (subst (λ x. IsBroken x (at.0).header claim rule) (sym whole.head) (subst (λ x. IsBroken (head_of o) x claim rule) (sym at.2) broken));
    order = follow;
    samples = subst HasNothing (sym counts) (clean.1 (as-list found.parts.items none.samples));
    notes = notes.1 none.notes;
  }),
  λ yes.
      let nothing = law.1 yes in
      record {
        heads = λ part rule has broken.
            let at = map-has head_of parts part.header (subst (λ hs. Has hs part.header) headers (mapped-has (λ (f : PartFindings). f.header) found.parts.items part has)) in
            nothing.heads at.0 rule at.1 (subst (λ x. IsBroken (head_of o) x claim rule) (sym at.2) (subst (λ x. IsBroken x part.header claim rule) whole.head broken));
        samples = all-there (λ (f : PartFindings). list_all is_clean (channels_of f) ≡ true) found.parts.items (clean.0 (subst HasNothing counts nothing.samples));
        notes = notes.0 nothing.notes;
      },
)
  where
    looker : Looker
    looker = from.looker

    are : AreFoundBy claim looker found
    are = from.are

    counted-so : AreCounted o parts claim [] (counted_by looker)
    counted-so = (from.seen).counted

    a : ℤ
    a = neg_ℤ (origin_of o)

    b : ℤ
    b = neg_ℤ (origin_of o +ℤ shift_ps claim)

    counts : counted_by looker ≡ serial_counts claim o (head_of o) a b counted-so.labels beginning parts
    counts = counted-so.are

    ordered : AreOrdered b beginning parts
    ordered = ordered_parts o parts claim is conform follow

    law : NothingIsFoundIn o parts claim (counted_by looker) ↔ IsYes v.verdict
    law = nothing_found o parts claim (counted_by looker) v is some conform verdict counted-so

    whole : IsWhole o parts claim (record { head = found.original; kept = map note_value looker.notes.kept.items; exported = map note_value looker.notes.exported.items })
    whole =
        let S : Option Head → Type 0 = λ x. MatchOption (option_map (λ (head : Head). record { head = head; kept = map note_value looker.notes.kept.items; exported = map note_value looker.notes.exported.items }) x) ⊥ (λ shown. FollowOneAnother parts → IsWhole o parts claim shown) in
        subst S are.original_is (from.seen).whole follow

    in-original : AreFoundIn claim are.labels (head_of o) looker.parts.items found.parts.items
    in-original = subst (λ x. AreFoundIn claim are.labels x looker.parts.items found.parts.items) whole.head are.are

    headers : map (λ (f : PartFindings). f.header) found.parts.items ≡ map head_of parts
    headers = heads-are claim o (head_of o) (head_of o) a b counted-so.labels are.labels beginning parts looker.parts.items found.parts.items ordered counts in-original

    clean : HasNothing (serial_counts claim o (head_of o) a b counted-so.labels beginning parts) ↔ AreClean found.parts.items
    clean = all-clean claim o (head_of o) a b counted-so.labels are.labels beginning parts looker.parts.items found.parts.items counted-so.sorted are.sorted ordered counts in-original

    as-list : (fs : List PartFindings) → ((part : PartFindings) → Has fs part → list_all is_clean (channels_of part) ≡ true) → AreClean fs
    as-list [] each = tt
    as-list (f ∷ fs) each = (each f (inl refl), as-list fs (λ g h. each g (inr h)))

    notes : SameNotes (kept_notes o claim) (exported_by_all o parts claim) ↔ SameNotes (map note_value found.notes.kept.items) (map note_value found.notes.exported.items)
    notes =
        let N : Notes → Type 0 = λ ns. SameNotes (kept_notes o claim) (exported_by_all o parts claim) ↔ SameNotes (map note_value ns.kept.items) (map note_value ns.exported.items) in
        subst N (sym are.notes_are)
        (same-permuted (kept_notes o claim) (exported_by_all o parts claim) (map note_value looker.notes.kept.items) (map note_value looker.notes.exported.items) whole.kept whole.exported)
