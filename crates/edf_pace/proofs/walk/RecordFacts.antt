-- The samples of one channel of a file, data record by data record.
use Rattle.std.proofs.Common.{◌≡◌, ℕ, zero, suc, ◌+◌, ◌*◌, ◌<◌, ◌≤◌, ◌==◌, ℤ, pos, ◌+ℤ◌, ◌*ℤ◌, ◌<ℤ◌, ◌≤ℤ◌, unsigned_abs, Bool, true, false, not, cond, ◌&&◌, List, [], ◌∷◌, ◌++◌, length, drop, map, filter, None, Some, slice_get, inl, inr, ⊎_elim, refl, sym, ap, ◌∙◌, subst, arith, length-take}
use Rattle.std.proofs.lemmas.Bool.{cases_lt}
use Rattle.std.proofs.lemmas.Bool.Decides.{nat_tests}
use Rattle.std.proofs.lemmas.Int.{ints}
use Rattle.std.proofs.lemmas.List.{append-nil, map-append}
use Rattle.std.proofs.lemmas.List.Elements.{filter-append}
use borrow.Author.Differences.{up, down}
use Rattle.edf_claim.specs.ClaimValues.{ClaimValue}
use Rattle.edf_claim.specs.Keeps.{keeps_instant}
use Rattle.edf_fields.specs.Lists.{Has}
use Rattle.edf_fields.proofs.ForCallers.{has-append, has-filtered}
use Rattle.edf_header.specs.Heads.{SignalHead, Head}
use Rattle.edf_stream.specs.declared.samples.sample.Sample.{Sample}
use Rattle.edf_stream.specs.Conforming.{Conforms}
use Rattle.edf_stream.specs.times.InstantOrder.{IsNotBefore}
use Rattle.edf_stream.specs.records.Records.{record_at, lane_of}
use Rattle.edf_stream.specs.samples.SamplesReading.{lane_samples, samples_by, samples_in, samples_before, samples_of}
use Rattle.edf_stream.specs.times.Starts.{file_start}
use Rattle.edf_stream.specs.times.StartsReading.{start_in, start_at, end_at}
use Rattle.edf_header.specs.signals.Channels.{channels_among}
use Rattle.edf_stream.specs.samples.Values.{digital}
use Rattle.edf_stream.proofs.ForCallers.{samples_are_of_channels, samples_rise, starts-behind, starts_late}
use Rattle.edf_pace.specs.declared.walk.channel_place.ChannelPlace.{ChannelPlace}
use Rattle.edf_samples.specs.declared.point.Point.{Point}
use Rattle.edf_pace.specs.walk.Columns.{point_of, is_of, is_kept, points_of}
use Rattle.edf_samples.specs.Differences.{instant}
use Rattle.edf_samples.proofs.ForCallers.{IsAscending, AreBefore, AreFrom, since_none, until_none, later, earlier_from, by_test, filters_swap}
use Rattle.edf_samples.specs.InstantOrder.{IsBefore, is_before}
use Rattle.edf_samples.specs.Stretches.{stretch_points, whole, since, until}
use Rattle.edf_pace.specs.walk.Windows.{sampled, points_at, kept_at}
use Rattle.edf_pace.specs.walk.Pairs.{IsPlaceIn}
use Rattle.edf_pace.specs.walk.Shown.{begin_by, end_by, ArePast}
use Rattle.edf_pace.proofs.walk.ChannelFacts.{ascending}

-- the samples of a channel in the data record of these bytes, moved
abbrev pub shown_points : Head → ℤ → SignalHead → List ℕ → List Point
shown_points h ps channel bytes =
    stretch_points ((pos channel.samples *ℤ (file_start h +ℤ start_in h bytes)) +ℤ (pos channel.samples *ℤ ps)) h.duration (lane_of channel bytes)

-- ---- the samples of a channel

-- a sample of the channel has as its denominator how many samples the channel has in a data record
of-place : (file : List ℕ) (h : Head) (place : ChannelPlace) (x : Sample) → IsPlaceIn h place → Has (samples_of file h) x → is_of place.number x ≡ true → (x.channel ≡ place.number) × ((x.instant).den ≡ place.samples)
of-place file h place x p i t =
    let s = samples_are_of_channels file h x i in
    let here : x.channel ≡ place.number = grind (arith, nat_tests, t) in
    let same : s.0 ≡ p.channel = (let z : Some s.0 ≡ Some p.channel = sym s.1 ∙ ap (slice_get (channels_among h.signals)) here ∙ p.there in cc) in
    (here, s.2 ∙ ap (λ (c : SignalHead). c.samples) same ∙ sym p.samples)

pub points-ascend : (file : List ℕ) (h : Head) (place : ChannelPlace) (ps : ℤ) → Conforms file h → IsPlaceIn h place → IsAscending (points_at (sampled file h ps) place)
points-ascend file h place ps c p =
    ascending (is_of place.number) ps place.number place.samples (samples_of file h) (samples_rise file h c) (λ x i t. of-place file h place x p i t)

-- one sample more, of which `b` says that it is of the channel, and `k` that it is kept
kept-cons : (ps : ℤ) (b k : Bool) (x : Sample) (some all : List Sample) (keeps : Point → Bool) → (b ≡ true → k ≡ keeps (point_of ps x)) → map (point_of ps) some ≡ filter keeps (map (point_of ps) all)
    → map (point_of ps) (cond (b && k) (x ∷ some) some) ≡ filter keeps (map (point_of ps) (cond b (x ∷ all) all))
kept-cons ps true k x some all keeps is rest =
    ap (λ c. map (point_of ps) (cond c (x ∷ some) some)) (is refl)
    ∙ by_test (keeps (point_of ps x)) (λ c. map (point_of ps) (cond c (x ∷ some) some) ≡ cond c (point_of ps x ∷ filter keeps (map (point_of ps) all)) (filter keeps (map (point_of ps) all)))
    (λ e. ap (λ ys. point_of ps x ∷ ys) rest) (λ e. rest)
kept-cons ps false k x some all keeps is rest = rest

-- the samples that are kept, where all those of a channel have one denominator
kept-of : (claim : ClaimValue) (ps : ℤ) (c n : ℕ) (xs : List Sample) → ((x : Sample) → Has xs x → is_of c x ≡ true → (x.instant).den ≡ n)
    → points_of (is_kept claim c ps) ps xs ≡ filter (λ x. keeps_instant claim x.num n) (points_of (is_of c) ps xs)
kept-of claim ps c n [] of = refl
kept-of claim ps c n (x ∷ xs) of =
    kept-cons ps (is_of c x) (keeps_instant claim (point_of ps x).num (x.instant).den) x (filter (is_kept claim c ps) xs) (filter (is_of c) xs) (λ y. keeps_instant claim y.num n)
    (λ t. ap (keeps_instant claim (point_of ps x).num) (of x (inl refl) t)) (kept-of claim ps c n xs (λ y i. of y (inr i)))

pub points-are-kept : (claim : ClaimValue) (file : List ℕ) (h : Head) (place : ChannelPlace) (ps : ℤ) → Conforms file h → IsPlaceIn h place
    → kept_at claim (sampled file h ps) place ≡ filter (λ x. keeps_instant claim x.num place.samples) (points_at (sampled file h ps) place)
points-are-kept claim file h place ps c p =
    kept-of claim ps place.number place.samples (samples_of file h) (λ x i t. (of-place file h place x p i t).1)

-- ---- the samples of a channel in one data record

points-append : (test : Sample → Bool) (ps : ℤ) (xs ys : List Sample) → points_of test ps (xs ++ ys) ≡ points_of test ps xs ++ points_of test ps ys
points-append test ps xs ys = ap (map (point_of ps)) (filter-append test xs ys) ∙ map-append (point_of ps) (filter test xs) (filter test ys)

-- a lane of another channel has none
other-lane : (c n k : ℕ) (ps a d : ℤ) (lane : List ℕ) → (c == k) ≡ false → points_of (is_of k) ps (lane_samples c n a d lane) ≡ []
other-lane c n k ps a d [] e = refl
other-lane c n k ps a d (byte ∷ []) e = refl
other-lane c n k ps a d (low ∷ high ∷ rest) e = rw e (other-lane c n k ps (a +ℤ d) d rest e)

moved-on : (a b d : ℤ) → (a +ℤ d) +ℤ b ≡ (a +ℤ b) +ℤ d
moved-on a b d = omega (arith, ints)

-- the lane of the channel has all
own-lane : (c n : ℕ) (ps a d : ℤ) (lane : List ℕ) → (c == c) ≡ true → points_of (is_of c) ps (lane_samples c n a d lane) ≡ stretch_points (a +ℤ (pos n *ℤ ps)) d lane
own-lane c n ps a d [] e = refl
own-lane c n ps a d (byte ∷ []) e = refl
own-lane c n ps a d (low ∷ high ∷ rest) e =
    let p : Point = record { num = a +ℤ (pos n *ℤ ps); value = digital low high } in
    rw e (ap (λ ys. p ∷ ys) (own-lane c n ps (a +ℤ d) d rest e ∙ ap (λ z. stretch_points z d rest) (moved-on a (pos n *ℤ ps) d)))

-- channels with higher numbers have none
other-lanes : (c k : ℕ) (ps start d : ℤ) (channels : List SignalHead) (bytes : List ℕ) → k < c → points_of (is_of k) ps (samples_by c start d channels bytes) ≡ []
other-lanes c k ps start d [] bytes lt = refl
other-lanes c k ps start d (x ∷ xs) bytes lt =
    let e : (c == k) ≡ false = grind (arith, nat_tests, lt) in
    points-append (is_of k) ps (lane_samples c x.samples (pos x.samples *ℤ start) d (lane_of x bytes)) (samples_by (c + 1) start d xs bytes)
    ∙ ap (λ ys. ys ++ points_of (is_of k) ps (samples_by (c + 1) start d xs bytes)) (other-lane c x.samples k ps (pos x.samples *ℤ start) d (lane_of x bytes) e)
    ∙ other-lanes (c + 1) k ps start d xs bytes (omega (arith, lt))

abbrev lane_points : ℤ → ℤ → ℤ → List ℕ → SignalHead → List Point
lane_points ps start d bytes x = stretch_points ((pos x.samples *ℤ start) +ℤ (pos x.samples *ℤ ps)) d (lane_of x bytes)

numbered-lane : (c at k : ℕ) (ps start d : ℤ) (channels : List SignalHead) (bytes : List ℕ) (channel : SignalHead) → slice_get channels at ≡ Some channel → k ≡ c + at
    → points_of (is_of k) ps (samples_by c start d channels bytes) ≡ lane_points ps start d bytes channel
numbered-lane c at k ps start d [] bytes channel e same = absurd (let z : None ≡ Some channel = e in cc)
numbered-lane c zero k ps start d (x ∷ xs) bytes channel e same =
    let is : x ≡ channel = (let z : Some x ≡ Some channel = e in cc) in
    let here : k ≡ c = omega (arith, same) in
    let own : (c == c) ≡ true = grind (arith, nat_tests) in
    let lane = lane_samples c x.samples (pos x.samples *ℤ start) d (lane_of x bytes) in
    let others = samples_by (c + 1) start d xs bytes in
    points-append (is_of k) ps lane others
    ∙ ap (λ ys. points_of (is_of k) ps lane ++ ys) (other-lanes (c + 1) k ps start d xs bytes (omega (arith, here)))
    ∙ append-nil (points_of (is_of k) ps lane)
    ∙ ap (λ j. points_of (is_of j) ps lane) here
    ∙ own-lane c x.samples ps (pos x.samples *ℤ start) d (lane_of x bytes) own
    ∙ ap (lane_points ps start d bytes) is
numbered-lane c (suc at) k ps start d (x ∷ xs) bytes channel e same =
    let other : (c == k) ≡ false = (let lt : c < k = omega (arith, same) in grind (arith, nat_tests, lt)) in
    let lane = lane_samples c x.samples (pos x.samples *ℤ start) d (lane_of x bytes) in
    let others = samples_by (c + 1) start d xs bytes in
    points-append (is_of k) ps lane others
    ∙ ap (λ ys. ys ++ points_of (is_of k) ps others) (other-lane c x.samples k ps (pos x.samples *ℤ start) d (lane_of x bytes) other)
    ∙ numbered-lane (c + 1) at k ps start d xs bytes channel e (omega (arith, same))

pub shown-are-points : (h : Head) (place : ChannelPlace) (ps : ℤ) (bytes : List ℕ) → (p : IsPlaceIn h place) → points_of (is_of place.number) ps (samples_in h bytes) ≡ shown_points h ps p.channel bytes
unfolding samples_in
shown-are-points h place ps bytes p =
    numbered-lane 0 place.number place.number ps (file_start h +ℤ start_in h bytes) h.duration (channels_among h.signals) bytes p.channel p.there (omega arith)

-- ---- where the samples of a data record stand

stretch-before : (n m d : ℕ) (a e : ℤ) (lane : List ℕ) → 0 < d → length lane ≤ 2 * m → (a +ℤ pos (m * d)) ≤ℤ (e *ℤ pos n) → AreBefore n (stretch_points a (pos d) lane) (whole e)
stretch-before n m d a e [] pd le reach = λ x i. absurd i
stretch-before n m d a e (byte ∷ []) pd le reach = λ x i. absurd i
stretch-before n zero d a e (low ∷ high ∷ rest) pd le reach = absurd (omega (arith, le))
stretch-before n (suc m) d a e (low ∷ high ∷ rest) pd le reach = λ x i.
    ⊎_elim
    (λ j. let P : Point → Type 0 = λ z. IsBefore (instant n z) (whole e) in subst P j (omega (arith, ints, pd, reach)))
    (λ j. stretch-before n m d (a +ℤ pos d) e rest pd (omega (arith, le)) (omega (arith, ints, reach)) x j) i

stretch-from : (n d : ℕ) (a s : ℤ) (lane : List ℕ) → (s *ℤ pos n) ≤ℤ a → AreFrom n (stretch_points a (pos d) lane) (whole s)
stretch-from n d a s [] le = λ x i. absurd i
stretch-from n d a s (byte ∷ []) le = λ x i. absurd i
stretch-from n d a s (low ∷ high ∷ rest) le = λ x i.
    ⊎_elim
    (λ j. let P : Point → Type 0 = λ z. IsNotBefore (instant n z) (whole s) in subst P j (omega (arith, ints, le)))
    (λ j. stretch-from n d (a +ℤ pos d) s rest (omega (arith, ints, le)) x j) i

-- where a data record of n samples begins, and where it ends, over n
begins_at : (n : ℕ) (f s ps z b : ℤ) → z ≡ f +ℤ s → b ≡ (f +ℤ ps) +ℤ s → b *ℤ pos n ≡ (pos n *ℤ z) +ℤ (pos n *ℤ ps)
begins_at n f s ps z b zs bs =
    let p : (up b + down z + down ps) * n ≡ (down b + up z + up ps) * n = ap (λ k. k * n) (omega (arith, ints)) in
    omega (arith, ints, p)

ends_at : (n d : ℕ) (f s ps z e : ℤ) → z ≡ f +ℤ s → e ≡ (f +ℤ ps) +ℤ (s +ℤ pos d) → ((pos n *ℤ z) +ℤ (pos n *ℤ ps)) +ℤ pos (n * d) ≡ e *ℤ pos n
ends_at n d f s ps z e zs es =
    let p : (up e + down z + down ps) * n ≡ (down e + up z + up ps + d) * n = ap (λ k. k * n) (omega (arith, ints)) in
    omega (arith, ints, p)

pub lasts : (file : List ℕ) (h : Head) → Conforms file h → pos 0 <ℤ h.duration
lasts file h c = let some : pos 1 ≤ℤ h.duration = (c.header).standard.some_time in omega (arith, ints, some)

natural : (d : ℤ) → pos 0 <ℤ d → d ≡ pos (unsigned_abs d)
natural d p = omega (arith, ints)

lane-bytes : (x : SignalHead) (bytes : List ℕ) → length (lane_of x bytes) ≤ 2 * x.samples
lane-bytes x bytes = omega (arith, length-take (2 * x.samples) (drop x.offset bytes))

record-before : (file : List ℕ) (h : Head) (place : ChannelPlace) (ps : ℤ) (k : ℕ) → Conforms file h → (p : IsPlaceIn h place)
    → AreBefore place.samples (shown_points h ps p.channel (record_at file h k)) (whole (end_by file h ps k))
record-before file h place ps k c p =
    let channel = p.channel in
    let n = channel.samples in
    let s = start_at file h k in
    let f = file_start h in
    let d = unsigned_abs h.duration in
    let lane = lane_of channel (record_at file h k) in
    let a = (pos n *ℤ (f +ℤ s)) +ℤ (pos n *ℤ ps) in
    let e = end_by file h ps k in
    let pd = lasts file h c in
    let is : h.duration ≡ pos d = natural h.duration pd in
    let reach : a +ℤ pos (n * d) ≡ e *ℤ pos n = ends_at n d f s ps (f +ℤ s) e refl (ap (λ z. (f +ℤ ps) +ℤ (s +ℤ z)) is) in
    let before = stretch-before n n d a e lane (omega (arith, ints, pd, is)) (lane-bytes channel (record_at file h k)) (omega (arith, ints, reach)) in
    let P : ℕ → ℤ → Type 0 = λ m z. AreBefore m (stretch_points a z lane) (whole e) in
    subst (λ m. P m h.duration) (sym p.samples) (subst (P n) (sym is) before)

record-from : (file : List ℕ) (h : Head) (place : ChannelPlace) (ps : ℤ) (k : ℕ) → Conforms file h → (p : IsPlaceIn h place)
    → AreFrom place.samples (shown_points h ps p.channel (record_at file h k)) (whole (begin_by file h ps k))
record-from file h place ps k c p =
    let channel = p.channel in
    let n = channel.samples in
    let s = start_at file h k in
    let f = file_start h in
    let d = unsigned_abs h.duration in
    let lane = lane_of channel (record_at file h k) in
    let a = (pos n *ℤ (f +ℤ s)) +ℤ (pos n *ℤ ps) in
    let b = begin_by file h ps k in
    let is : h.duration ≡ pos d = natural h.duration (lasts file h c) in
    let start : b *ℤ pos n ≡ a = begins_at n f s ps (f +ℤ s) b refl refl in
    let from = stretch-from n d a b lane (omega (arith, ints, start)) in
    let P : ℕ → ℤ → Type 0 = λ m z. AreFrom m (stretch_points a z lane) (whole b) in
    subst (λ m. P m h.duration) (sym p.samples) (subst (P n) (sym is) from)

-- ---- data records follow one another

-- no data record starts before the file
starts-late : (file : List ℕ) (h : Head) (k : ℕ) → Conforms file h → k < h.records → pos 0 ≤ℤ start_at file h k
starts-late file h zero c lt = starts_late file h c
starts-late file h (suc k) c lt =
    let early : pos 0 ≤ℤ start_at file h k = starts-late file h k c (omega (arith, lt)) in
    let next : end_at file h k ≤ℤ start_at file h (suc k) = starts-behind file h k (suc k) c (omega arith) lt in
    let p = lasts file h c in
    omega (arith, ints, early, next, p)

-- ---- the samples of the first data records

abbrev points_before : List ℕ → Head → ChannelPlace → ℤ → ℕ → List Point
points_before file h place ps k = points_of (is_of place.number) ps (samples_before file h k)

one-more : (file : List ℕ) (h : Head) (place : ChannelPlace) (ps : ℤ) (k : ℕ) → (p : IsPlaceIn h place)
    → points_before file h place ps (suc k) ≡ points_before file h place ps k ++ shown_points h ps p.channel (record_at file h k)
one-more file h place ps k p =
    points-append (is_of place.number) ps (samples_before file h k) (samples_in h (record_at file h k))
    ∙ ap (λ ys. points_before file h place ps k ++ ys) (shown-are-points h place ps (record_at file h k) p)

-- a sample of one data record more is one of those before it, or one of it
more-cases : {P : Type 0} (file : List ℕ) (h : Head) (place : ChannelPlace) (ps : ℤ) (k : ℕ) → (p : IsPlaceIn h place) → (x : Point) → Has (points_before file h place ps (suc k)) x
    → (Has (points_before file h place ps k) x → P) → (Has (shown_points h ps p.channel (record_at file h k)) x → P) → P
more-cases file h place ps k p x i early late =
    ⊎_elim early late
    (has-append (points_before file h place ps k) (shown_points h ps p.channel (record_at file h k)) x (let Q : List Point → Type 0 = λ ys. Has ys x in subst Q (one-more file h place ps k p) i))

-- those of data records that are past
before-past : (file : List ℕ) (h : Head) (place : ChannelPlace) (ps : ℤ) (k : ℕ) (t : ℤ) → Conforms file h → IsPlaceIn h place → ArePast file h ps k t → AreBefore place.samples (points_before file h place ps k) (whole t)
before-past file h place ps zero t c p past = λ x i. absurd i
before-past file h place ps (suc k) t c p past = λ x i.
    more-cases file h place ps k p x i
    (λ j. before-past file h place ps k t c p (λ m lt. past m (omega (arith, lt))) x j)
    (λ j. later (instant place.samples x) (end_by file h ps k) t (past k (omega arith)) (record-before file h place ps k c p x j))

-- those of data records that none of them starts before t
before-late : (file : List ℕ) (h : Head) (place : ChannelPlace) (ps : ℤ) (k : ℕ) (t : ℤ) → Conforms file h → IsPlaceIn h place → k ≤ h.records → t ≤ℤ (file_start h +ℤ ps)
    → AreFrom place.samples (points_before file h place ps k) (whole t)
before-late file h place ps zero t c p le early = λ x i. absurd i
before-late file h place ps (suc k) t c p le early = λ x i.
    more-cases file h place ps k p x i
    (λ j. before-late file h place ps k t c p (omega (arith, le)) early x j)
    (λ j.
    let late : pos 0 ≤ℤ start_at file h k = starts-late file h k c le in
    earlier_from (instant place.samples x) t (begin_by file h ps k) (omega (arith, ints, early, late)) (record-from file h place ps k c p x j))

pub nothing-left : (file : List ℕ) (h : Head) (place : ChannelPlace) (ps t : ℤ) → Conforms file h → IsPlaceIn h place → ArePast file h ps h.records t → since place.samples t (points_at (sampled file h ps) place) ≡ []
unfolding samples_of
nothing-left file h place ps t c p past =
    since_none place.samples t (points_before file h place ps h.records) (before-past file h place ps h.records t c p past)

pub nothing-kept : (claim : ClaimValue) (file : List ℕ) (h : Head) (place : ChannelPlace) (ps t : ℤ) → Conforms file h → IsPlaceIn h place → ArePast file h ps h.records t
    → since place.samples t (kept_at claim (sampled file h ps) place) ≡ []
nothing-kept claim file h place ps t c p past =
    let n = place.samples in
    let keeps : Point → Bool = λ x. keeps_instant claim x.num n in
    ap (since n t) (points-are-kept claim file h place ps c p)
    ∙ filters_swap (λ x. not (is_before (instant n x) (whole t))) keeps (points_at (sampled file h ps) place)
    ∙ ap (filter keeps) (nothing-left file h place ps t c p past)

-- those of a file whose first data record doesn't begin before t
begins-from : (file : List ℕ) (h : Head) (ps t : ℤ) (k : ℕ) → Conforms file h → k < h.records → t ≤ℤ begin_by file h ps 0 → t ≤ℤ begin_by file h ps k
begins-from file h ps t zero c lt from = from
begins-from file h ps t (suc k) c lt from =
    let next : end_at file h 0 ≤ℤ start_at file h (suc k) = starts-behind file h 0 (suc k) c (omega arith) lt in
    let p = lasts file h c in
    omega (arith, ints, from, next, p)

before-from : (file : List ℕ) (h : Head) (place : ChannelPlace) (ps t : ℤ) (k : ℕ) → Conforms file h → IsPlaceIn h place → k ≤ h.records → t ≤ℤ begin_by file h ps 0 → AreFrom place.samples (points_before file h place ps k) (whole t)
before-from file h place ps t zero c p le from = λ x i. absurd i
before-from file h place ps t (suc k) c p le from = λ x i.
    more-cases file h place ps k p x i
    (λ j. before-from file h place ps t k c p (omega (arith, le)) from x j)
    (λ j. earlier_from (instant place.samples x) t (begin_by file h ps k) (begins-from file h ps t k c le from) (record-from file h place ps k c p x j))

pub from-first : (file : List ℕ) (h : Head) (place : ChannelPlace) (ps t : ℤ) → Conforms file h → IsPlaceIn h place → t ≤ℤ begin_by file h ps 0 → AreFrom place.samples (points_at (sampled file h ps) place) (whole t)
unfolding samples_of
from-first file h place ps t c p from = before-from file h place ps t h.records c p (omega arith) from

pub before-past-all : (file : List ℕ) (h : Head) (place : ChannelPlace) (ps t : ℤ) → Conforms file h → IsPlaceIn h place → ArePast file h ps h.records t → AreBefore place.samples (points_at (sampled file h ps) place) (whole t)
unfolding samples_of
before-past-all file h place ps t c p past = before-past file h place ps h.records t c p past

-- ---- what stands between two times

abbrev between : ℕ → ℤ → ℤ → List Point → List Point
between n t u xs = until n u (since n t xs)

between-append : (n : ℕ) (t u : ℤ) (xs ys : List Point) → between n t u (xs ++ ys) ≡ between n t u xs ++ between n t u ys
between-append n t u xs ys =
    ap (until n u) (filter-append (λ x. not (is_before (instant n x) (whole t))) xs ys)
    ∙ filter-append (λ x. is_before (instant n x) (whole u)) (since n t xs) (since n t ys)

between-past : (n : ℕ) (t u : ℤ) (xs : List Point) → AreBefore n xs (whole t) → between n t u xs ≡ []
between-past n t u xs h = ap (until n u) (since_none n t xs h)

between-late : (n : ℕ) (t u : ℤ) (xs : List Point) → AreFrom n xs (whole u) → between n t u xs ≡ []
between-late n t u xs h = until_none n u (since n t xs) (λ x i. h x (has-filtered (λ y. not (is_before (instant n y) (whole t))) xs x i).0)

-- of the first r data records
window-of : (file : List ℕ) (h : Head) (place : ChannelPlace) (ps : ℤ) (k : ℕ) (t u : ℤ) (r : ℕ) → Conforms file h → (p : IsPlaceIn h place) → k < r → r ≤ h.records → ArePast file h ps k t → u ≤ℤ end_by file h ps k
    → between place.samples t u (points_before file h place ps r) ≡ between place.samples t u (shown_points h ps p.channel (record_at file h k))
window-of file h place ps k t u zero c p lt le past reaches = absurd (omega (arith, lt))
window-of file h place ps k t u (suc r) c p lt le past reaches =
    let n = place.samples in
    let front = points_before file h place ps r in
    let back = shown_points h ps p.channel (record_at file h r) in
    let parts : between n t u (points_before file h place ps (suc r)) ≡ between n t u front ++ between n t u back =
    ap (between n t u) (one-more file h place ps r p) ∙ between-append n t u front back in
    elim (cases_lt k r) [
      | inl less ↦
          let ended : end_at file h k ≤ℤ start_at file h r = starts-behind file h k r c less le in
          let late : AreFrom n back (whole u) = λ x i. earlier_from (instant n x) u (begin_by file h ps r) (omega (arith, ints, reaches, ended)) (record-from file h place ps r c p x i) in
          parts ∙ ap (λ ys. between n t u front ++ ys) (between-late n t u back late) ∙ append-nil (between n t u front) ∙ window-of file h place ps k t u r c p less (omega (arith, le)) past reaches
      | inr few ↦
          let e : r ≡ k = omega (arith, lt, few) in
          parts ∙ ap (λ ys. ys ++ between n t u back) (between-past n t u front (before-past file h place ps r t c p (λ m l. past m (omega (arith, l, e)))))
          ∙ ap (λ m. between n t u (shown_points h ps p.channel (record_at file h m))) e
    ]

pub window-is : (file : List ℕ) (h : Head) (place : ChannelPlace) (ps : ℤ) (k : ℕ) (t u : ℤ) → Conforms file h → (p : IsPlaceIn h place) → suc k ≤ h.records → ArePast file h ps k t → u ≤ℤ end_by file h ps k
    → until place.samples u (since place.samples t (points_at (sampled file h ps) place)) ≡ until place.samples u (since place.samples t (shown_points h ps p.channel (record_at file h k)))
unfolding samples_of
window-is file h place ps k t u c p le past reaches = window-of file h place ps k t u h.records c p le (omega arith) past reaches
