-- What a watcher counts window by window is what it counts at once; and the first of what it counts is what a check finds.
use Rattle.std.proofs.Common.{◌≡◌, cond, ℕ, zero, suc, ◌+◌, ◌<◌, ℤ, ◌≤ℤ◌, List, [], ◌∷◌, ◌++◌, map, take, drop, get_or, replicate, set, length, Option, Some, None, option_map, refl, sym, ap, ◌∙◌, arith, lit<}
use Rattle.edf_claim.specs.ClaimValues.{ClaimValue}
use Rattle.edf_samples.specs.declared.difference.PointDifference.{PointDifference}
use Rattle.edf_samples.specs.declared.counts.tally.Tally.{Tally}
use Rattle.edf_pace.specs.declared.walk.channel_place.ChannelPlace.{ChannelPlace}
use Rattle.edf_samples.specs.declared.earliest.Found.{Found}
use Rattle.edf_samples.specs.declared.point.Point.{Point}
use Rattle.edf_samples.specs.InstantOrder.{is_before}
use Rattle.edf_pace.specs.declared.walk.track.Pair.{Pair}
use Rattle.edf_pace.specs.declared.walk.track.Track.{Track}
use Rattle.std.proofs.lemmas.List.{append-nil}
use Rattle.edf_pace.specs.walk.Columns.{Sampled}
use Rattle.edf_samples.specs.Differences.{earlier, earliest, found}
use Rattle.edf_samples.specs.Stretches.{since, until, whole}
use Rattle.edf_samples.specs.Tallies.{counted, differences_of, first_of, joined, tally_of}
use Rattle.edf_samples.specs.declared.times.Window.{Window}
use Rattle.edf_pace.specs.declared.walk.frame.Frame.{Frame}
use Rattle.edf_stream.specs.records.Readers.{Reader}
use Rattle.edf_pace.specs.walk.Counting.{AreCounted, counts_between, differences_in, tallies_between}
use Rattle.edf_pace.specs.walk.Hands.{counted_on, joined_each, records_at}
use Rattle.edf_pace.specs.walk.Spots.{count_in, no_count, records_in}
use Rattle.edf_pace.specs.declared.walk.watchers.at_hand.Hands.{Hands}
use Rattle.edf_pace.specs.declared.walk.watchers.found_in.ChannelCount.{ChannelCount}
use Rattle.edf_stream.specs.declared.times.instant.Instant.{Instant}
use Rattle.edf_pace.specs.walk.Shown.{Covers}
use Rattle.edf_pace.specs.walk.Watching.{TwoFiles, first_between, moved_export, moved_original, two_files}
use Rattle.edf_pace.specs.walk.Pairs.{IsFrame, Places, places_of}
use Rattle.edf_pace.specs.walk.Windows.{kept_at, points_at, sampled, window_of, window_difference}
use Rattle.edf_samples.proofs.ForCallers.{until-before, by_test, differences_split, first_is_first, joined_none, tally_append}
use Rattle.edf_pace.proofs.walk.LockstepFacts.{are_places}
use Rattle.edf_pace.proofs.walk.SplitFacts.{AreSound, AllSound, all_sound}
use Rattle.edf_pace.proofs.walk.WindowFacts.{nothing_between, until-from, window_split}
use Rattle.edf_pace.proofs.walk.watchers.SpotFacts.{IsWithin, channel-found, differences-within, hands-are}

-- ---- the first of what is counted

-- what a check finds in a channel is the first of its differences
pub channel_first : (claim : ClaimValue) (o e : Sampled) (t u : ℤ) (p q : Option ChannelPlace) → window_of claim o e t u p q ≡ first_of (differences_in claim o e t u p q)
unfolding differences_in
channel_first claim o e t u None q = refl
channel_first claim o e t u (Some p) None = refl
channel_first claim o e t u (Some p) (Some q) =
    first_is_first p.samples (until p.samples u (since p.samples t (kept_at claim o p))) q.samples (until q.samples u (since q.samples t (points_at e q)))

-- what a check finds in all of them is the earliest of the first of each
pub earliest_is_counted : (frame : Frame) (files : TwoFiles) (t u : ℤ) → first_between frame files t u ≡ earliest 0 (map (λ (tally : Tally). tally.first) (tallies_between frame files t u))
unfolding window_difference tally_of
earliest_is_counted frame files t u = ap (earliest 0) (each (frame.pairs).now)
  where
    claim : ClaimValue
    claim = ((frame.turn).setting.claim).now

    o : Sampled
    o = sampled files.original files.head (moved_original frame.turn)

    e : Sampled
    e = sampled files.export files.export_head (moved_export frame.turn)

    each : (pairs : List Pair) → map (λ (p : Places). window_of claim o e t u p.0 p.1) (map places_of pairs) ≡ map (λ (tally : Tally). tally.first) (map (λ (pair : Pair). tally_of (differences_in claim o e t u (places_of pair).0 (places_of pair).1)) pairs)
    each [] = refl
    each (p ∷ ps) = rw (channel_first claim o e t u (places_of p).0 (places_of p).1, each ps) refl

-- ---- one channel

counted_parts : (claim : ClaimValue) (o e : Sampled) (p q : Option ChannelPlace) (t u v : ℤ) → AreSound claim o e p q → t ≤ℤ u → u ≤ℤ v → differences_in claim o e t v p q ≡ differences_in claim o e t u p q ++ differences_in claim o e u v p q
unfolding AreSound differences_in
counted_parts claim o e None q t u v sound l r = refl
counted_parts claim o e (Some p) None t u v sound l r = refl
counted_parts claim o e (Some p) (Some q) t u v sound l r =
    let n = p.samples in
    let m = q.samples in
    let xs = kept_at claim o p in
    let ys = points_at e q in
    ap (λ zs. differences_of n zs m (until m v (since m t ys))) (window_split n t u v xs sound.0 sound.2 l r)
    ∙ ap (λ zs. differences_of n (until n u (since n t xs) ++ until n v (since n u xs)) m zs) (window_split m t u v ys sound.1 sound.3 l r)
    ∙ differences_split n m (until n u (since n t xs)) (until n v (since n u xs)) (until m u (since m t ys)) (until m v (since m u ys)) (whole u) sound.0 sound.1 (lit< tt)
    (until-before n u (since n t xs)) (until-before m u (since m t ys)) (until-from n u v xs) (until-from m u v ys)

counted_none : (claim : ClaimValue) (o e : Sampled) (p q : Option ChannelPlace) (t : ℤ) → differences_in claim o e t t p q ≡ []
unfolding differences_in differences_of
counted_none claim o e None q t = refl
counted_none claim o e (Some p) None t = refl
counted_none claim o e (Some p) (Some q) t =
    ap (λ xs. differences_of p.samples xs q.samples (until q.samples t (since q.samples t (points_at e q)))) (nothing_between p.samples t (kept_at claim o p))
    ∙ ap (λ ys. differences_of p.samples [] q.samples ys) (nothing_between q.samples t (points_at e q))

-- ---- all channels

pub counts_parts : (claim : ClaimValue) (files : TwoFiles) (a b : ℤ) (hands : Hands) (pairs : List Pair) (s t u : ℤ) → AllSound claim (sampled files.original files.head a) (sampled files.export files.export_head b) (map places_of pairs) → s ≤ℤ t → t ≤ℤ u
    → ((at : Instant) → IsWithin t u at → records_at hands at ≡ records_in files a b at)
    → joined_each hands t (map (count_in files a b) (map (λ (p : Pair). tally_of (differences_in claim (sampled files.original files.head a) (sampled files.export files.export_head b) s t (places_of p).0 (places_of p).1)) pairs))
    (map (λ (p : Pair). differences_in claim (sampled files.original files.head a) (sampled files.export files.export_head b) t u (places_of p).0 (places_of p).1) pairs)
    ≡ map (count_in files a b) (map (λ (p : Pair). tally_of (differences_in claim (sampled files.original files.head a) (sampled files.export files.export_head b) s u (places_of p).0 (places_of p).1)) pairs)
unfolding AllSound
counts_parts claim files a b hands [] s t u sound l r same = refl
counts_parts claim files a b hands (p ∷ ps) s t u sound l r same =
    let o = sampled files.original files.head a in
    let e = sampled files.export files.export_head b in
    let before = differences_in claim o e s t (places_of p).0 (places_of p).1 in
    let now = differences_in claim o e t u (places_of p).0 (places_of p).1 in
    let here : counted_on hands t (count_in files a b (tally_of before)) (joined (tally_of before) (tally_of now)) ≡ count_in files a b (tally_of (differences_in claim o e s u (places_of p).0 (places_of p).1)) =
    channel-found files a b s t u hands before now (differences-within claim o e s t (places_of p).0 (places_of p).1) (differences-within claim o e t u (places_of p).0 (places_of p).1) same
    ∙ ap (count_in files a b) (tally_append before now ∙ ap tally_of (sym (counted_parts claim o e (places_of p).0 (places_of p).1 s t u sound.0 l r))) in
    rw (here, counts_parts claim files a b hands ps s t u sound.1 l r same) refl

pub counts_none : (claim : ClaimValue) (o e : Sampled) (pairs : List Pair) (t : ℤ) → map (λ (p : Pair). tally_of (differences_in claim o e t t (places_of p).0 (places_of p).1)) pairs ≡ map (λ p. tally_of []) pairs
counts_none claim o e [] t = refl
counts_none claim o e (p ∷ ps) t = rw (counted_none claim o e (places_of p).0 (places_of p).1 t, counts_none claim o e ps t) refl

-- ---- the counts in a loop from the last channel to the first

pub set_there : (k : ℕ) (xs zs : List ChannelCount) (v : ChannelCount) → k < length xs → set (take (suc k) xs ++ zs) k v ≡ take k xs ++ (v ∷ zs)
set_there k [] zs v lt = absurd (omega (arith, lt))
set_there zero (x ∷ xs) zs v lt = refl
set_there (suc k) (x ∷ xs) zs v lt = ap (λ ys. x ∷ ys) (set_there k xs zs v (omega (arith, lt)))

-- the differences of a pair were counted
pub pair_counted : (claim : ClaimValue) (o e : Sampled) (t u : ℤ) (p q : ChannelPlace) (n m : ℕ) (xs ys : List Point) (before after : Tally)
    → n ≡ p.samples → m ≡ q.samples
    → xs ≡ until p.samples u (since p.samples t (kept_at claim o p)) → ys ≡ until q.samples u (since q.samples t (points_at e q))
    → after ≡ joined before (tally_of (differences_of n xs m ys)) → after ≡ joined before (tally_of (differences_in claim o e t u (Some p) (Some q)))
unfolding differences_in
pair_counted claim o e t u p q n m xs ys before after en em ex ey counted =
    let J : List PointDifference → Tally = λ ds. joined before (tally_of ds) in
    counted ∙ ap (λ k. J (differences_of k xs m ys)) en ∙ ap (λ k. J (differences_of p.samples xs k ys)) em
    ∙ ap (λ zs. J (differences_of p.samples zs q.samples ys)) ex
    ∙ ap (λ zs. J (differences_of p.samples (until p.samples u (since p.samples t (kept_at claim o p))) q.samples zs)) ey

pub tracks_counted : (claim : ClaimValue) (o e : Sampled) (t u : ℤ) (pair : Pair) (here there : Track) (before after : Tally) → pair.original ≡ Some here → pair.export ≡ Some there
    → after ≡ joined before (tally_of (differences_in claim o e t u (Some here.place) (Some there.place))) → after ≡ joined before (tally_of (differences_in claim o e t u (places_of pair).0 (places_of pair).1))
tracks_counted claim o e t u pair here there before after eo ee counted =
    counted ∙ ap (λ x. joined before (tally_of (differences_in claim o e t u (option_map (λ (track : Track). track.place) x) (Some there.place)))) (sym eo)
    ∙ ap (λ y. joined before (tally_of (differences_in claim o e t u (places_of pair).0 (option_map (λ (track : Track). track.place) y)))) (sym ee)

pub none_here : (claim : ClaimValue) (o e : Sampled) (t u : ℤ) (pair : Pair) (before : Tally) → pair.original ≡ None → before ≡ joined before (tally_of (differences_in claim o e t u (places_of pair).0 (places_of pair).1))
unfolding differences_in
none_here claim o e t u pair before eo =
    sym (joined_none before) ∙ ap (λ x. joined before (tally_of (differences_in claim o e t u (option_map (λ (track : Track). track.place) x) (places_of pair).1))) (sym eo)

pub none_there : (claim : ClaimValue) (o e : Sampled) (t u : ℤ) (pair : Pair) (here : Track) (before : Tally) → pair.original ≡ Some here → pair.export ≡ None → before ≡ joined before (tally_of (differences_in claim o e t u (places_of pair).0 (places_of pair).1))
unfolding differences_in
none_there claim o e t u pair here before eo ee =
    sym (joined_none before)
    ∙ ap (λ x. joined before (tally_of (differences_in claim o e t u (option_map (λ (track : Track). track.place) x) None))) (sym eo)
    ∙ ap (λ y. joined before (tally_of (differences_in claim o e t u (places_of pair).0 (option_map (λ (track : Track). track.place) y)))) (sym ee)

get_there : (k : ℕ) (xs zs : List ChannelCount) (x y : ChannelCount) → k < length xs → get_or (take (suc k) xs ++ zs) k y ≡ get_or xs k x
get_there k [] zs x y lt = absurd (omega (arith, lt))
get_there zero (a ∷ xs) zs x y lt = refl
get_there (suc k) (a ∷ xs) zs x y lt = get_there k xs zs x y (omega (arith, lt))

mapped_at : (f : Pair → List PointDifference) (k : ℕ) (pairs : List Pair) (pair : Pair) → k < length pairs → drop k (map f pairs) ≡ f (get_or pairs k pair) ∷ drop (suc k) (map f pairs)
mapped_at f k [] pair lt = absurd (omega (arith, lt))
mapped_at f zero (p ∷ pairs) pair lt = refl
mapped_at f (suc k) (p ∷ pairs) pair lt = mapped_at f k pairs pair (omega (arith, lt))

cut_at : (k : ℕ) (xs : List ChannelCount) (x : ChannelCount) → k < length xs → drop k xs ≡ get_or xs k x ∷ drop (suc k) xs
cut_at k [] x lt = absurd (omega (arith, lt))
cut_at zero (a ∷ xs) x lt = refl
cut_at (suc k) (a ∷ xs) x lt = cut_at k xs x (omega (arith, lt))

-- what is noted of a channel of which more was counted
pub note_step : (hands : Hands) (t : ℤ) (old : ChannelCount) (tally more : Tally) (v : ChannelCount) → tally ≡ joined old.tally more → v ≡ counted_on hands t (record old { tally = tally }) tally → v ≡ counted_on hands t old (joined old.tally more)
note_step hands t old tally more v counted noted = noted ∙ ap (counted_on hands t old) counted

-- one channel more, before those that were counted
pub count_step : (hands : Hands) (t : ℤ) (f : Pair → List PointDifference) (old now : List ChannelCount) (pairs : List Pair) (i k : ℕ) (pair : Pair) (a v : ChannelCount) → i ≡ suc k → k < length pairs → length old ≡ length pairs
    → now ≡ take i old ++ joined_each hands t (drop i old) (drop i (map f pairs)) → v ≡ counted_on hands t (get_or now k a) (joined (get_or now k a).tally (tally_of (f (get_or pairs k pair))))
    → set now k v ≡ take k old ++ joined_each hands t (drop k old) (drop k (map f pairs))
count_step hands t f old now pairs i k pair a v ei lt same before is =
    let le : k < length old = omega (arith, lt, same) in
    let zs = joined_each hands t (drop (suc k) old) (drop (suc k) (map f pairs)) in
    let step : ChannelCount → ChannelCount = λ x. counted_on hands t x (joined x.tally (tally_of (f (get_or pairs k pair)))) in
    let here : now ≡ take (suc k) old ++ zs = before ∙ ap (λ j. take j old ++ joined_each hands t (drop j old) (drop j (map f pairs))) ei in
    let mine : v ≡ step (get_or old k a) = is ∙ ap step (ap (λ xs. get_or xs k a) here ∙ get_there k old zs a a le) in
    ap (λ xs. set xs k v) here ∙ set_there k old zs v le
    ∙ ap (λ x. take k old ++ (x ∷ zs)) mine
    ∙ ap (λ xs. take k old ++ xs) (sym (ap (λ xs. joined_each hands t xs (drop k (map f pairs))) (cut_at k old a le) ∙ ap (λ ys. joined_each hands t (get_or old k a ∷ drop (suc k) old) ys) (mapped_at f k pairs pair lt)))

drop-all : (xs : List ChannelCount) → drop (length xs) xs ≡ []
drop-all [] = refl
drop-all (x ∷ xs) = drop-all xs

take-all : (xs : List ChannelCount) → take (length xs) xs ≡ xs
take-all [] = refl
take-all (x ∷ xs) = ap (λ ys. x ∷ ys) (take-all xs)

pub written_back : (len : ℕ) (items new : List ChannelCount) → length new ≡ length items → len ≡ length items → take len (new ++ drop (length new) items) ≡ new
written_back len items new e f =
    ap (λ k. take len (new ++ drop k items)) e ∙ ap (λ xs. take len (new ++ xs)) (drop-all items) ∙ ap (take len) (append-nil new) ∙ ap (λ k. take k new) (f ∙ sym e) ∙ take-all new

-- what is counted between s and u, where what there is before t was counted
pub counts_next : (frame : Frame) (r q : Reader) (w : Window) (x y : List ℕ) (s : ℤ) (held now : List ChannelCount) → IsFrame r.head q.head frame → (w.from).ps ≤ℤ (w.to).ps → AreCounted r q frame w held now
    → Covers r x (moved_original frame.turn) (w.from).ps (w.to).ps → Covers q y (moved_export frame.turn) (w.from).ps (w.to).ps → s ≤ℤ (w.from).ps
    → held ≡ counts_between frame (two_files x r.head y q.head) s (w.from).ps → now ≡ counts_between frame (two_files x r.head y q.head) s (w.to).ps
counts_next frame r q w x y s held now is order counted cx cy from before =
    let a = moved_original frame.turn in
    let b = moved_export frame.turn in
    let t = (w.from).ps in
    let u = (w.to).ps in
    let hands = counted.0 in
    let claim = ((frame.turn).setting.claim).now in
    let pairs = (frame.pairs).now in
    counted.2 x y cx cy
    ∙ ap (λ ts. joined_each hands t ts (map (λ (pair : Pair). differences_in claim (sampled x r.head a) (sampled y q.head b) t u (places_of pair).0 (places_of pair).1) pairs)) before
    ∙ counts_parts claim (two_files x r.head y q.head) a b hands pairs s t u (all_sound claim x y r.head q.head a b (map places_of pairs) cx.conforms cy.conforms (are_places r.head q.head pairs is.0)) from order
    (λ at within. hands-are r q x y a b t u hands at counted.1 cx cy within.0 within.1)

-- nothing was counted yet
pub counts_begin : (frame : Frame) (files : TwoFiles) (t : ℤ) → map (λ p. tally_of []) (frame.pairs).now ≡ tallies_between frame files t t
counts_begin frame files t =
    sym (counts_none ((frame.turn).setting.claim).now (sampled files.original files.head (moved_original frame.turn)) (sampled files.export files.export_head (moved_export frame.turn)) (frame.pairs).now t)

-- ---- the begin

pub replicate-more : (k : ℕ) (t : ChannelCount) → replicate k t ++ (t ∷ []) ≡ replicate (k + 1) t
replicate-more k t = go k ∙ ap (λ j. replicate j t) (let e : suc k ≡ k + 1 = omega arith in e)
  where
    go : (k : ℕ) → replicate k t ++ (t ∷ []) ≡ replicate (suc k) t
    go zero = refl
    go (suc k) = ap (λ ts. t ∷ ts) (go k)

none-counted-of : (files : TwoFiles) (a b : ℤ) → no_count ≡ count_in files a b (tally_of [])
unfolding tally_of counted
none-counted-of files a b = refl

pub each_none : (frame : Frame) (files : TwoFiles) (t : ℤ) → replicate (length (frame.pairs).now) no_count ≡ counts_between frame files t t
each_none frame files t = each (frame.pairs).now ∙ ap (map (count_in files (moved_original frame.turn) (moved_export frame.turn))) (counts_begin frame files t)
  where
    each : (pairs : List Pair) → replicate (length pairs) no_count ≡ map (count_in files (moved_original frame.turn) (moved_export frame.turn)) (map (λ p. tally_of []) pairs)
    each [] = refl
    each (p ∷ ps) =
        ap (λ ts. no_count ∷ ts) (each ps)
        ∙ ap (λ c. c ∷ map (count_in files (moved_original frame.turn) (moved_export frame.turn)) (map (λ p. tally_of []) ps)) (none-counted-of files (moved_original frame.turn) (moved_export frame.turn))

pub replicate-length : (k : ℕ) (t : ChannelCount) → length (replicate k t) ≡ k
replicate-length zero t = refl
replicate-length (suc k) t = ap suc (replicate-length k t)

-- ---- the ends of a loop from the last channel to the first

pub all_left : (hands : Hands) (t : ℤ) (i : ℕ) (xs : List ChannelCount) (dss : List (List PointDifference)) → i ≡ length xs → xs ≡ take i xs ++ joined_each hands t (drop i xs) (drop i dss)
all_left hands t i xs dss e =
    sym (ap (λ k. take k xs ++ joined_each hands t (drop k xs) (drop k dss)) e ∙ ap (λ ys. ys ++ joined_each hands t (drop (length xs) xs) (drop (length xs) dss)) (take-all xs)
    ∙ ap (λ ys. xs ++ joined_each hands t ys (drop (length xs) dss)) (drop-all xs) ∙ append-nil xs)

pub none_left : (hands : Hands) (t : ℤ) (i : ℕ) (xs : List ChannelCount) (dss : List (List PointDifference)) → i ≡ 0 → take i xs ++ joined_each hands t (drop i xs) (drop i dss) ≡ joined_each hands t xs dss
none_left hands t i xs dss e = ap (λ k. take k xs ++ joined_each hands t (drop k xs) (drop k dss)) e

-- ---- where nothing differs

pub none-both : (a b : Option Found) → earlier a b ≡ None → (a ≡ None) × (b ≡ None)
none-both None b e = (refl, e)
none-both (Some a) None e = absurd (let z : Some a ≡ None = e in cc)
none-both (Some a) (Some b) e =
    by_test (is_before b.difference.at a.difference.at) (λ t. cond t (Some b) (Some a) ≡ None → (Some a ≡ None) × (Some b ≡ None))
    (λ t z. absurd (let y : Some b ≡ None = z in cc)) (λ t z. absurd (let y : Some a ≡ None = z in cc)) e

pub none-mapped : (k : ℕ) (d : Option PointDifference) → option_map (found k) d ≡ None → d ≡ None
none-mapped k None e = refl
none-mapped k (Some d) e = absurd (let z : Some (found k d) ≡ None = e in cc)

pub none-first : (ds : List PointDifference) → first_of ds ≡ None → ds ≡ []
none-first [] e = refl
none-first (d ∷ ds) e = absurd (let z : Some d ≡ None = e in cc)

none-channel : (claim : ClaimValue) (o e : Sampled) (t u : ℤ) (p q : Option ChannelPlace) → window_of claim o e t u p q ≡ None → differences_in claim o e t u p q ≡ []
none-channel claim o e t u p q none = none-first (differences_in claim o e t u p q) (sym (channel_first claim o e t u p q) ∙ none)

none-counted : (claim : ClaimValue) (o e : Sampled) (s t u : ℤ) (k : ℕ) (pairs : List Pair) → AllSound claim o e (map places_of pairs) → s ≤ℤ t → t ≤ℤ u
    → earliest k (map (λ (p : Places). window_of claim o e t u p.0 p.1) (map places_of pairs)) ≡ None
    → map (λ (p : Pair). tally_of (differences_in claim o e s t (places_of p).0 (places_of p).1)) pairs ≡ map (λ (p : Pair). tally_of (differences_in claim o e s u (places_of p).0 (places_of p).1)) pairs
unfolding AllSound
none-counted claim o e s t u k [] sound l r none = refl
none-counted claim o e s t u k (p ∷ ps) sound l r none =
    let both = none-both (option_map (found k) (window_of claim o e t u (places_of p).0 (places_of p).1)) (earliest (k + 1) (map (λ (q : Places). window_of claim o e t u q.0 q.1) (map places_of ps))) none in
    let here = none-channel claim o e t u (places_of p).0 (places_of p).1 (none-mapped k (window_of claim o e t u (places_of p).0 (places_of p).1) both.0) in
    let before = differences_in claim o e s t (places_of p).0 (places_of p).1 in
    let same : differences_in claim o e s u (places_of p).0 (places_of p).1 ≡ before =
    counted_parts claim o e (places_of p).0 (places_of p).1 s t u sound.0 l r ∙ ap (λ ds. before ++ ds) here ∙ append-nil before in
    rw (same, none-counted claim o e s t u (k + 1) ps sound.1 l r both.1) refl

-- where two files show no difference from t on and before u, as much is counted before t as before u
pub nothing_counted : (frame : Frame) (r q : Reader) (w : Window) (x y : List ℕ) (s : ℤ) (held : List ChannelCount) → IsFrame r.head q.head frame → (w.from).ps ≤ℤ (w.to).ps
    → Covers r x (moved_original frame.turn) (w.from).ps (w.to).ps → Covers q y (moved_export frame.turn) (w.from).ps (w.to).ps → s ≤ℤ (w.from).ps
    → None ≡ window_difference ((frame.turn).setting.claim).now (sampled x r.head (moved_original frame.turn)) (sampled y q.head (moved_export frame.turn)) (map places_of (frame.pairs).now) (w.from).ps (w.to).ps
    → held ≡ counts_between frame (two_files x r.head y q.head) s (w.from).ps → held ≡ counts_between frame (two_files x r.head y q.head) s (w.to).ps
unfolding window_difference
nothing_counted frame r q w x y s held is order cx cy from none before =
    let a = moved_original frame.turn in
    let b = moved_export frame.turn in
    let claim = ((frame.turn).setting.claim).now in
    let pairs = (frame.pairs).now in
    before
    ∙ ap (map (count_in (two_files x r.head y q.head) a b)) (none-counted claim (sampled x r.head a) (sampled y q.head b) s (w.from).ps (w.to).ps 0 pairs
    (all_sound claim x y r.head q.head a b (map places_of pairs) cx.conforms cy.conforms (are_places r.head q.head pairs is.0)) from order (sym none))
