-- The data records in which samples lie that were counted are those at hand.
use Rattle.std.proofs.Common.{◌≡◌, ◌↔◌, cond, if◌then◌else◌, ℕ, zero, suc, ◌+◌, ◌<◌, ◌≤◌, ℤ, ◌+ℤ◌, ◌≤ℤ◌, ◌⊎◌, Bool, true, false, not, ◌&&◌, IsTrue, IfSome, MatchOption, List, [], ◌∷◌, map, Option, Some, None, option_map, inl, inr, refl, sym, ap, ◌∙◌, subst, arith}
use Rattle.std.proofs.lemmas.Bool.{cases_lt}
use Rattle.std.proofs.lemmas.Int.{ints}
use Rattle.std.specs.List.{AllByRecursion}
use Rattle.std.specs.Option.{option_or}
use Rattle.std.specs.Ordering.{int_eq}
use Rattle.edf_claim.specs.ClaimValues.{ClaimValue}
use Rattle.edf_fields.specs.Lists.{Has}
use Rattle.edf_fields.proofs.ForCallers.{has-filtered, map-has}
use Rattle.edf_header.specs.Heads.{Head}
use Rattle.edf_stream.specs.Conforming.{Conforms}
use Rattle.edf_stream.specs.declared.times.instant.Instant.{Instant}
use Rattle.edf_stream.specs.declared.records.status.Status.{Status}
use Rattle.edf_stream.specs.declared.records.status.Status.TheVariants.{Begun, Current, Ended, Stopped}
use Rattle.edf_stream.specs.records.Readers.{Reader, is_current}
use Rattle.edf_stream.specs.times.InstantOrder.{IsNotBefore}
use Rattle.edf_stream.specs.times.Starts.{file_start}
use Rattle.edf_stream.specs.times.StartsReading.{start_at, end_at, start_in}
use Rattle.edf_stream.proofs.ForCallers.{starts-behind}
use Rattle.edf_verdict.specs.declared.verdict.SampleMismatch.{SampleMismatch}
use Rattle.edf_samples.specs.declared.difference.PointDifference.{PointDifference}
use Rattle.edf_samples.specs.declared.counts.tally.Tally.{Tally}
use Rattle.edf_samples.specs.declared.point.Point.{Point}
use Rattle.edf_samples.specs.Differences.{extra, instant, missing, other}
use Rattle.edf_samples.specs.InstantOrder.{IsBefore, is_before}
use Rattle.edf_samples.specs.Stretches.{since, until, whole}
use Rattle.edf_samples.specs.Tallies.{counted, differences_of, first_of, is_changed, is_extra, is_missing, joined, joined_kind, last_of, of_kind, tally_of}
use Rattle.edf_samples.proofs.ForCallers.{by_test, earlier_from, false-is_before, later, true-is_before, until-before}
use Rattle.edf_pace.specs.declared.walk.channel_place.ChannelPlace.{ChannelPlace}
use Rattle.edf_pace.specs.declared.walk.watchers.at_hand.Hands.{Hands}
use Rattle.edf_pace.specs.declared.walk.watchers.found_in.ChannelCount.{ChannelCount}
use Rattle.edf_pace.specs.declared.walk.watchers.found_in.FoundIn.{FoundIn}
use Rattle.edf_pace.specs.declared.walk.watchers.found_in.RecordsAt.{RecordsAt}
use Rattle.edf_pace.specs.walk.Columns.{Sampled}
use Rattle.edf_pace.specs.walk.Counting.{differences_in}
use Rattle.edf_pace.specs.walk.Hands.{AreHandsOf, counted_on, found_on, number_in, records_at}
use Rattle.edf_pace.specs.walk.Shown.{ArePast, Covers, Reaches, Shows, begin_by, begins_at, end_by}
use Rattle.edf_pace.specs.walk.Spots.{count_in, lies_in, record_among, record_in, records_in}
use Rattle.edf_pace.specs.walk.Watching.{TwoFiles, two_files}
use Rattle.edf_pace.specs.walk.Windows.{kept_at, points_at}
use Rattle.edf_pace.proofs.walk.SpanFacts.{and_false}
use Rattle.edf_pace.proofs.walk.WindowFacts.{until-from}

-- ---- the data record in which an instant lies

and-true : (b : Bool) → (b && true) ≡ b
and-true true = refl
and-true false = refl

-- it lies in none that ends at it or before
none-past : (file : List ℕ) (h : Head) (ps t : ℤ) (at : Instant) (k : ℕ) → ArePast file h ps k t → IsNotBefore at (whole t) → record_among file h ps at k ≡ None
none-past file h ps t at zero past from = refl
none-past file h ps t at (suc k) past from =
    let ended : is_before at (whole (end_by file h ps k)) ≡ false = false-is_before at (whole (end_by file h ps k)) (earlier_from at (end_by file h ps k) t (past k (omega arith)) from) in
    let no : lies_in file h ps at k ≡ false = ap (λ b. not (is_before at (whole (begin_by file h ps k))) && b) ended ∙ and_false (not (is_before at (whole (begin_by file h ps k)))) in
    ap (λ b. cond b (Some k) (record_among file h ps at k)) no ∙ none-past file h ps t at k (λ j lt. past j (omega (arith, lt))) from

-- nor in one that begins behind it
none-later : (file : List ℕ) (h : Head) (ps u : ℤ) (at : Instant) (k r : ℕ) → Conforms file h → k < r → r ≤ h.records → u ≤ℤ end_by file h ps k → IsBefore at (whole u)
    → record_among file h ps at r ≡ record_among file h ps at (suc k)
none-later file h ps u at k zero c lt le reaches before = absurd (omega (arith, lt))
none-later file h ps u at k (suc r) c lt le reaches before =
    elim (cases_lt k r) [
      | inl less ↦
          let next : end_at file h k ≤ℤ start_at file h r = starts-behind file h k r c less le in
          let begun : is_before at (whole (begin_by file h ps r)) ≡ true =
          true-is_before at (whole (begin_by file h ps r)) (later at u (begin_by file h ps r) (omega (arith, ints, reaches, next)) before) in
          let no : lies_in file h ps at r ≡ false = ap (λ b. not b && is_before at (whole (end_by file h ps r))) begun in
          ap (λ b. cond b (Some r) (record_among file h ps at r)) no ∙ none-later file h ps u at k r c less (omega (arith, le)) reaches before
      | inr few ↦ let same : k ≡ r = omega (arith, lt, few) in ap (λ j. record_among file h ps at (suc j)) (sym same)
    ]

-- in the one at hand it lies exactly where that has begun
one-at-hand : (file : List ℕ) (h : Head) (ps t u : ℤ) (at : Instant) (k : ℕ) → Conforms file h → suc k ≤ h.records → ArePast file h ps k t → u ≤ℤ end_by file h ps k → IsNotBefore at (whole t) → IsBefore at (whole u)
    → cond (is_before at (whole (begin_by file h ps k))) None (Some k) ≡ record_in file h ps at
one-at-hand file h ps t u at k c le past reaches from before =
    let lasts : is_before at (whole (end_by file h ps k)) ≡ true = true-is_before at (whole (end_by file h ps k)) (later at u (end_by file h ps k) reaches before) in
    let none : record_among file h ps at k ≡ None = none-past file h ps t at k past from in
    let here : lies_in file h ps at k ≡ not (is_before at (whole (begin_by file h ps k))) =
    ap (λ b. not (is_before at (whole (begin_by file h ps k))) && b) lasts ∙ and-true (not (is_before at (whole (begin_by file h ps k)))) in
    let turned : (b : Bool) → cond b None (Some k) ≡ cond (not b) (Some k) None = λ b. by_test b (λ x. cond x None (Some k) ≡ cond (not x) (Some k) None) (λ e. refl) (λ e. refl) in
    turned (is_before at (whole (begin_by file h ps k)))
    ∙ ap (λ x. cond (not (is_before at (whole (begin_by file h ps k)))) (Some k) x) (sym none)
    ∙ ap (λ b. cond b (Some k) (record_among file h ps at k)) (sym here)
    ∙ sym (none-later file h ps u at k h.records c (omega (arith, le)) (omega arith) reaches before)

-- ---- a data record at hand

abbrev number_by : ℤ → Instant → Option ℕ → Option ℕ
number_by from at number = if is_before at (whole from) then None else number

abbrev IsHandBy : Reader → ℤ → ℤ → Option ℕ → Type 0
IsHandBy r ps from number = MatchOption number ((is_current r.status ≡ false) ⊎ (r.read ≡ 0)) (λ n. IsTrue (is_current r.status) × (n + 1 ≡ r.read) × (from ≡ begins_at r ps))

nothing-at : (from : ℤ) (at : Instant) → number_by from at None ≡ None
nothing-at from at = let none : Option ℕ = None in by_test (is_before at (whole from)) (λ b. cond b none none ≡ none) (λ e. refl) (λ e. refl)

hand-shown : (s : Status) (r : Reader) (file : List ℕ) (ps t u from : ℤ) (number : Option ℕ) (at : Instant) → r.status ≡ s → Conforms file r.head → Shows s r file ps t → Reaches r ps u → IsHandBy r ps from number
    → IsNotBefore at (whole t) → IsBefore at (whole u) → number_by from at number ≡ record_in file r.head ps at
hand-shown Begun r file ps t u from number at is c shows reaches hand late early = absurd shows
hand-shown (Stopped stop) r file ps t u from number at is c shows reaches hand late early = absurd shows
hand-shown Ended r file ps t u from None at is c shows reaches hand late early = nothing-at from at ∙ sym (none-past file r.head ps t at (r.head).records shows late)
hand-shown Ended r file ps t u from (Some n) at is c shows reaches hand late early =
    let no : is_current r.status ≡ false = ap is_current is in
    let yes' : is_current r.status ≡ true = sym (let z : true ≡ is_current r.status = (let w = hand.0 in cc) in z) in
    absurd (let z : true ≡ false = sym yes' ∙ no in cc)
hand-shown Current r file ps t u from None at is c shows reaches (inl none) late early =
    absurd (let z : true ≡ false = sym (ap is_current is) ∙ none in cc)
hand-shown Current r file ps t u from None at is c shows reaches (inr none) late early =
    let read = shows.1 in
    absurd (omega (arith, read, none))
hand-shown Current r file ps t u from (Some n) at is c shows reaches hand late early =
    let k = shows.0 in
    let read = shows.1 in
    let num = hand.1 in
    let same : n ≡ k = omega (arith, read, num) in
    let begun : from ≡ begin_by file r.head ps k = hand.2 ∙ ap (λ bytes. (file_start r.head +ℤ ps) +ℤ start_in r.head bytes) shows.3 in
    let reach : u ≤ℤ end_by file r.head ps k = subst (λ e. u ≤ℤ ((file_start r.head +ℤ ps) +ℤ e)) shows.4 (reaches (ap is_current is)) in
    ap (λ b. cond (is_before at (whole b)) None (Some n)) begun
    ∙ ap (λ j. cond (is_before at (whole (begin_by file r.head ps k))) None (Some j)) same
    ∙ one-at-hand file r.head ps t u at k c shows.2 shows.5 reach late early

-- the data records at hand are those in which an instant lies that they show
pub hands-are : (r s : Reader) (o e : List ℕ) (a b t u : ℤ) (hands : Hands) (at : Instant) → AreHandsOf r a s b hands → Covers r o a t u → Covers s e b t u → IsNotBefore at (whole t) → IsBefore at (whole u)
    → records_at hands at ≡ records_in (two_files o r.head e s.head) a b at
hands-are r s o e a b t u hands at are co ce late early =
    let here = hand-shown r.status r o a t u ((hands.original).from).ps (hands.original).number at refl co.conforms co.shows co.reaches are.0 late early in
    let there = hand-shown s.status s e b t u ((hands.export).from).ps (hands.export).number at refl ce.conforms ce.shows ce.reaches are.1 late early in
    let made : Option ℕ → Option ℕ → RecordsAt = λ x y. record { original = x; export = y } in
    ap (λ x. made x (number_in hands.export at)) here ∙ ap (made (record_in o r.head a at)) there

-- ---- differences of what stands between two times

each-in : (P : Instant → Type 0) (n : ℕ) (xs : List Point) (m : ℕ) (ys : List Point) → ((x : Point) → Has xs x → P (instant n x)) → ((y : Point) → Has ys y → P (instant m y))
    → (d : PointDifference) → Has (differences_of n xs m ys) d → P d.at
unfolding differences_of
each-in P n [] m ys fx fy d i = let r = map-has (extra m) ys d i in subst (λ (x : PointDifference). P x.at) r.2 (fy r.0 r.1)
each-in P n (x ∷ xs) m [] fx fy d i = let r = map-has (missing n) (x ∷ xs) d i in subst (λ (x : PointDifference). P x.at) r.2 (fx r.0 r.1)
each-in P n (x ∷ xs) m (y ∷ ys) fx fy d i =
    let at-x : P (instant n x) = fx x (inl refl) in
    let at-y : P (instant m y) = fy y (inl refl) in
    let less-x : (z : Point) → Has xs z → P (instant n z) = λ z j. fx z (inr j) in
    let less-y : (z : Point) → Has ys z → P (instant m z) = λ z j. fy z (inr j) in
    by_test (is_before (instant n x) (instant m y)) (λ b. Has (cond b (missing n x ∷ differences_of n xs m (y ∷ ys)) (cond (is_before (instant m y) (instant n x)) (extra m y ∷ differences_of n (x ∷ xs) m ys) (cond (int_eq x.value y.value) (differences_of n xs m ys) (other n x y ∷ differences_of n xs m ys)))) d → P d.at)
    (λ e j. head-or (missing n x) (differences_of n xs m (y ∷ ys)) d j at-x (each-in P n xs m (y ∷ ys) less-x fy d))
    (λ e. by_test (is_before (instant m y) (instant n x)) (λ b. Has (cond b (extra m y ∷ differences_of n (x ∷ xs) m ys) (cond (int_eq x.value y.value) (differences_of n xs m ys) (other n x y ∷ differences_of n xs m ys))) d → P d.at)
    (λ f j. head-or (extra m y) (differences_of n (x ∷ xs) m ys) d j at-y (each-in P n (x ∷ xs) m ys fx less-y d))
    (λ f. by_test (int_eq x.value y.value) (λ b. Has (cond b (differences_of n xs m ys) (other n x y ∷ differences_of n xs m ys)) d → P d.at)
    (λ g j. each-in P n xs m ys less-x less-y d j)
    (λ g j. head-or (other n x y) (differences_of n xs m ys) d j at-x (each-in P n xs m ys less-x less-y d)))) i
  where
    head-or : (f : PointDifference) (ds : List PointDifference) (d : PointDifference) → Has (f ∷ ds) d → P f.at → (Has ds d → P d.at) → P d.at
    head-or f ds d (inl e) here there = subst (λ (x : PointDifference). P x.at) e here
    head-or f ds d (inr j) here there = there j

-- each of them is from t on and before u
abbrev pub IsWithin : ℤ → ℤ → Instant → Type 0
IsWithin t u at = IsNotBefore at (whole t) × IsBefore at (whole u)

pub differences-within : (claim : ClaimValue) (o e : Sampled) (t u : ℤ) (p q : Option ChannelPlace) (d : PointDifference) → Has (differences_in claim o e t u p q) d → IsWithin t u d.at
unfolding differences_in
differences-within claim o e t u None q d i = absurd i
differences-within claim o e t u (Some p) None d i = absurd i
differences-within claim o e t u (Some p) (Some q) d i =
    let n = p.samples in
    let m = q.samples in
    let xs = kept_at claim o p in
    let ys = points_at e q in
    each-in (IsWithin t u) n (until n u (since n t xs)) m (until m u (since m t ys))
    (λ x j. (until-from n t u xs x j, until-before n u (since n t xs) x j))
    (λ y j. (until-from m t u ys y j, until-before m u (since m t ys) y j)) d i

-- ---- the first and the last of some

first-has : (ds : List PointDifference) → IfSome (first_of ds) (Has ds)
first-has [] = tt
first-has (d ∷ ds) = inl refl

last-has : (ds : List PointDifference) → IfSome (last_of ds) (Has ds)
last-has [] = tt
last-has (d ∷ ds) = behind (last_of ds) (last-has ds)
  where
    behind : (o : Option PointDifference) → IfSome o (Has ds) → IfSome (option_or o (Some d)) (Has (d ∷ ds))
    behind None i = inl refl
    behind (Some x) i = inr i

some-within : (t u : ℤ) (o : Option PointDifference) (ds es : List PointDifference) → ((d : PointDifference) → Has ds d → Has es d) → ((d : PointDifference) → Has es d → IsWithin t u d.at) → IfSome o (Has ds) → IfSome o (λ d. IsWithin t u d.at)
some-within t u None ds es sub each i = tt
some-within t u (Some d) ds es sub each i = each d (sub d i)

last-none : (ds : List PointDifference) → last_of ds ≡ None → first_of ds ≡ None
last-none [] e = refl
last-none (d ∷ ds) e = absurd (never (last_of ds) e)
  where
    never : (o : Option PointDifference) → option_or o (Some d) ≡ None → ⊥
    never None z = absurd (let y : Some d ≡ None = z in cc)
    never (Some x) z = absurd (let y : Some x ≡ None = z in cc)

-- ---- one kind of differences

abbrev both-ends : Option RecordsAt → Option RecordsAt → FoundIn
both-ends first last = record { first = first; last = last }

abbrev places-of : (Instant → RecordsAt) → Option PointDifference → Option RecordsAt
places-of R = option_map (λ (d : PointDifference). R d.at)

-- what was found of some, and now of others from t on, is what is found of both
kind-found : (R : Instant → RecordsAt) (hands : Hands) (t u : ℤ) (af al bf bl : Option PointDifference) (count : ℕ) → (bl ≡ None → bf ≡ None) → IfSome al (λ d. IsBefore d.at (whole t))
    → ((at : Instant) → IsWithin t u at → records_at hands at ≡ R at) → IfSome bf (λ d. IsWithin t u d.at) → IfSome bl (λ d. IsWithin t u d.at)
    → found_on hands t (both-ends (places-of R af) (places-of R al)) (record { count = count; first = option_or af bf; last = option_or bl al }) ≡ both-ends (places-of R (option_or af bf)) (places-of R (option_or bl al))
kind-found R hands t u af None bf None count both old same wf wl = rw (both refl) (first-same af)
  where
    first-same : (o : Option PointDifference) → both-ends (places-of R o) None ≡ both-ends (places-of R (option_or o None)) None
    first-same None = refl
    first-same (Some d) = refl
kind-found R hands t u af (Some d) bf None count both old same wf wl =
    let early : is_before d.at (whole t) ≡ true = true-is_before d.at (whole t) old in
    rw (both refl, early) (first-same af)
  where
    first-same : (o : Option PointDifference) → both-ends (places-of R o) (Some (R d.at)) ≡ both-ends (places-of R (option_or o None)) (Some (R d.at))
    first-same None = refl
    first-same (Some x) = refl
kind-found R hands t u af al bf (Some l) count both old same wf wl =
    let late : is_before l.at (whole t) ≡ false = false-is_before l.at (whole t) wl.0 in
    let here : records_at hands l.at ≡ R l.at = same l.at wl in
    rw (late, here) (firsts af bf wf)
  where
    firsts : (a b : Option PointDifference) → IfSome b (λ d. IsWithin t u d.at)
        → both-ends (option_or (places-of R a) (places-of (records_at hands) (option_or a b))) (Some (R l.at)) ≡ both-ends (places-of R (option_or a b)) (Some (R l.at))
    firsts None None w = refl
    firsts None (Some d) w = let z : records_at hands d.at ≡ R d.at = same d.at w in rw z refl
    firsts (Some x) b w = refl

-- the same of the differences of a channel
channel-kind : (R : Instant → RecordsAt) (hands : Hands) (s t u : ℤ) (is : SampleMismatch → Bool) (before now : List PointDifference)
    → ((d : PointDifference) → Has before d → IsWithin s t d.at) → ((d : PointDifference) → Has now d → IsWithin t u d.at) → ((at : Instant) → IsWithin t u at → records_at hands at ≡ R at)
    → let a = counted (of_kind is before) in let c = joined_kind a (counted (of_kind is now)) in
    found_on hands t (both-ends (places-of R a.first) (places-of R a.last)) c ≡ both-ends (places-of R c.first) (places-of R c.last)
unfolding counted joined_kind
channel-kind R hands s t u is before now old new same =
    kind-found R hands t u (first_of (of_kind is before)) (last_of (of_kind is before)) (first_of (of_kind is now)) (last_of (of_kind is now)) (joined_kind (counted (of_kind is before)) (counted (of_kind is now))).count (last-none (of_kind is now))
    (early (last_of (of_kind is before)) (some-within s t (last_of (of_kind is before)) (of_kind is before) before (λ d i. (has-filtered (λ (x : PointDifference). is x.mismatch) before d i).0) old (last-has (of_kind is before))))
    same
    (some-within t u (first_of (of_kind is now)) (of_kind is now) now (λ d i. (has-filtered (λ (x : PointDifference). is x.mismatch) now d i).0) new (first-has (of_kind is now)))
    (some-within t u (last_of (of_kind is now)) (of_kind is now) now (λ d i. (has-filtered (λ (x : PointDifference). is x.mismatch) now d i).0) new (last-has (of_kind is now)))
  where
    early : (o : Option PointDifference) → IfSome o (λ d. IsWithin s t d.at) → IfSome o (λ d. IsBefore d.at (whole t))
    early None w = tt
    early (Some d) w = w.1

-- ---- a channel

pub channel-found : (files : TwoFiles) (a b s t u : ℤ) (hands : Hands) (before now : List PointDifference)
    → ((d : PointDifference) → Has before d → IsWithin s t d.at) → ((d : PointDifference) → Has now d → IsWithin t u d.at) → ((at : Instant) → IsWithin t u at → records_at hands at ≡ records_in files a b at)
    → counted_on hands t (count_in files a b (tally_of before)) (joined (tally_of before) (tally_of now)) ≡ count_in files a b (joined (tally_of before) (tally_of now))
unfolding tally_of joined
channel-found files a b s t u hands before now old new same =
    rw (
      channel-kind (records_in files a b) hands s t u is_missing before now old new same,
      channel-kind (records_in files a b) hands s t u is_extra before now old new same,
      channel-kind (records_in files a b) hands s t u is_changed before now old new same,
    ) refl

-- ---- the tallies among what is found

pub tallies_of : (files : TwoFiles) (a b : ℤ) (tallies : List Tally) → map (λ (count : ChannelCount). count.tally) (map (count_in files a b) tallies) ≡ tallies
tallies_of files a b [] = refl
tallies_of files a b (t ∷ ts) = ap (λ xs. t ∷ xs) (tallies_of files a b ts)

-- each of them is that of none exactly where nothing is counted of each channel
pub none_of_each : (files : TwoFiles) (a b : ℤ) (tallies : List Tally) → AllByRecursion (λ (count : ChannelCount). count.tally ≡ tally_of []) (map (count_in files a b) tallies) ↔ AllByRecursion (λ (tally : Tally). tally ≡ tally_of []) tallies
none_of_each files a b [] = (λ n. tt, λ n. tt)
none_of_each files a b (t ∷ ts) = let rest = none_of_each files a b ts in (λ n. (n.0, rest.0 n.1), λ n. (n.0, rest.1 n.1))
