-- What a reader shows between two times.
use Rattle.std.proofs.Common.{◌≡◌, ℕ, ◌<◌, ℤ, ◌≤ℤ◌, true, false, not, List, [], Option, Some, None, IfSome, option_map, map, drop, filter, sym, ap, ◌∙◌, arith, subst}
use Rattle.std.proofs.lemmas.Int.{ints}
use Rattle.edf_claim.specs.ClaimValues.{ClaimValue}
use Rattle.edf_claim.specs.Keeps.{keeps_instant}
use Rattle.edf_claim.specs.KeepsReading.{IsUncut}
use Rattle.edf_claim.proofs.ForCallers.{kept-alike}
use Rattle.edf_fields.specs.Lists.{Has}
use Rattle.edf_fields.proofs.ForCallers.{has-filtered}
use Rattle.edf_stream.specs.declared.records.status.Status.{Status}
use Rattle.edf_stream.specs.declared.records.status.Status.TheVariants.{Begun, Current, Ended, Stopped}
use Rattle.edf_stream.specs.Conforming.{Conforms}
use Rattle.edf_stream.specs.records.Readers.{Reader, is_current}
use Rattle.edf_stream.specs.times.StartsReading.{end_at}
use Rattle.edf_pace.specs.declared.walk.channel_place.ChannelPlace.{ChannelPlace}
use Rattle.edf_samples.specs.declared.earliest.Found.{Found}
use Rattle.edf_samples.specs.declared.point.Point.{Point}
use Rattle.edf_samples.specs.declared.difference.PointDifference.{PointDifference}
use Rattle.edf_pace.specs.declared.walk.track.Pair.{Pair}
use Rattle.edf_pace.specs.declared.walk.track.Track.{Track}
use Rattle.edf_pace.specs.walk.Columns.{Sampled}
use Rattle.edf_samples.specs.Differences.{instant, first_difference_of, found, earlier, earliest}
use Rattle.edf_samples.specs.InstantOrder.{IsModest, is_before}
use Rattle.edf_pace.specs.walk.Windows.{sampled, points_at, kept_at, window_of, window_difference, first_at}
use Rattle.edf_pace.specs.walk.Pairs.{Places, places_of, IsPlaceIn}
use Rattle.edf_stream.specs.records.Records.{lane_of}
use Rattle.edf_samples.specs.Stretches.{stretch_points, whole, since, until}
use Rattle.edf_pace.specs.walk.Shown.{Shows, ends_at, Covers}
use Rattle.edf_samples.proofs.ForCallers.{until-before, since-from, filter_all, filter_none, filters_swap}
use Rattle.edf_pace.proofs.walk.SplitFacts.{earlier_both, mapped}
use Rattle.edf_pace.proofs.walk.RecordFacts.{points-are-kept, window-is, nothing-left, shown_points}
use Rattle.std.proofs.lemmas.Simd.{map-map}

shows_current : (s : Status) (r : Reader) (file : List ℕ) (place : ChannelPlace) (ps t u : ℤ) → Conforms file r.head → (p : IsPlaceIn r.head place) → Shows s r file ps t → u ≤ℤ ends_at r ps → is_current s ≡ true
    → until place.samples u (since place.samples t (points_at (sampled file r.head ps) place)) ≡ until place.samples u (since place.samples t (shown_points r.head ps p.channel r.current))
shows_current Begun r file place ps t u c p shows reaches e = absurd shows
shows_current Current r file place ps t u c p shows reaches e =
    let n = place.samples in
    let k = shows.0 in
    let ended : r.ended ≡ end_at file r.head k = shows.4 in
    window-is file r.head place ps k t u c p shows.2 shows.5 (omega (arith, ints, reaches, ended))
    ∙ ap (λ bytes. until n u (since n t (shown_points r.head ps p.channel bytes))) (sym shows.3)
shows_current Ended r file place ps t u c p shows reaches e = absurd (let g : false ≡ true = e in cc)
shows_current (Stopped x) r file place ps t u c p shows reaches e = absurd shows

shows_nothing : (s : Status) (r : Reader) (file : List ℕ) (place : ChannelPlace) (ps t u : ℤ) → Conforms file r.head → IsPlaceIn r.head place → Shows s r file ps t → is_current s ≡ false
    → until place.samples u (since place.samples t (points_at (sampled file r.head ps) place)) ≡ []
shows_nothing Begun r file place ps t u c p shows e = absurd shows
shows_nothing Current r file place ps t u c p shows e = absurd (let g : true ≡ false = e in cc)
shows_nothing Ended r file place ps t u c p shows e = ap (until place.samples u) (nothing-left file r.head place ps t c p shows)
shows_nothing (Stopped x) r file place ps t u c p shows e = absurd shows

pub covers_current : (r : Reader) (file : List ℕ) (place : ChannelPlace) (ps t u : ℤ) → (p : IsPlaceIn r.head place) → Covers r file ps t u → is_current r.status ≡ true
    → until place.samples u (since place.samples t (points_at (sampled file r.head ps) place)) ≡ until place.samples u (since place.samples t (shown_points r.head ps p.channel r.current))
covers_current r file place ps t u p covers e = shows_current r.status r file place ps t u covers.conforms p covers.shows (covers.reaches e) e

pub covers_nothing : (r : Reader) (file : List ℕ) (place : ChannelPlace) (ps t u : ℤ) → IsPlaceIn r.head place → Covers r file ps t u → is_current r.status ≡ false
    → until place.samples u (since place.samples t (points_at (sampled file r.head ps) place)) ≡ []
covers_nothing r file place ps t u p covers e = shows_nothing r.status r file place ps t u covers.conforms p covers.shows e

-- the samples of a channel in the data record at hand, by the bytes of its lane
pub shown_by : (r : Reader) (ps : ℤ) (place : ChannelPlace) (p : IsPlaceIn r.head place) (lane : List ℕ) → lane ≡ lane_of p.channel r.current
    → stretch_points (first_at r ps place.samples) (r.head).duration lane ≡ shown_points r.head ps p.channel r.current
shown_by r ps place p lane e =
    ap (λ bytes. stretch_points (first_at r ps place.samples) (r.head).duration bytes) e
    ∙ ap (λ n. stretch_points (first_at r ps n) (r.head).duration (lane_of p.channel r.current)) p.samples

-- ---- what a claim keeps between two times

kept-first : (claim : ClaimValue) (n : ℕ) (t u : ℤ) (xs : List Point) → until n u (since n t (filter (λ x. keeps_instant claim x.num n) xs)) ≡ filter (λ x. keeps_instant claim x.num n) (until n u (since n t xs))
kept-first claim n t u xs =
    ap (until n u) (filters_swap (λ x. not (is_before (instant n x) (whole t))) (λ x. keeps_instant claim x.num n) xs)
    ∙ filters_swap (λ x. is_before (instant n x) (whole u)) (λ x. keeps_instant claim x.num n) (since n t xs)

alike : (claim : ClaimValue) (n : ℕ) (t u : ℤ) (xs : List Point) (x : Point) → IsUncut claim.keep t u → Has (until n u (since n t xs)) x → keeps_instant claim x.num n ≡ keeps_instant claim t 1
alike claim n t u xs x o h =
    let low = since-from n t xs x (has-filtered (λ y. is_before (instant n y) (whole u)) (since n t xs) x h).0 in
    let high = until-before n u (since n t xs) x h in
    kept-alike claim n x.num t u o (omega (arith, ints, low)) (omega (arith, ints, high))

pub kept_all : (claim : ClaimValue) (file : List ℕ) (r : Reader) (place : ChannelPlace) (ps t u : ℤ) → Conforms file r.head → IsPlaceIn r.head place → IsUncut claim.keep t u → keeps_instant claim t 1 ≡ true
    → until place.samples u (since place.samples t (kept_at claim (sampled file r.head ps) place)) ≡ until place.samples u (since place.samples t (points_at (sampled file r.head ps) place))
kept_all claim file r place ps t u c p o e =
    let n = place.samples in
    let xs = points_at (sampled file r.head ps) place in
    ap (λ ys. until n u (since n t ys)) (points-are-kept claim file r.head place ps c p) ∙ kept-first claim n t u xs
    ∙ filter_all (λ x. keeps_instant claim x.num n) (until n u (since n t xs)) (λ x h. alike claim n t u xs x o h ∙ e)

pub kept_none : (claim : ClaimValue) (file : List ℕ) (r : Reader) (place : ChannelPlace) (ps t u : ℤ) → Conforms file r.head → IsPlaceIn r.head place → IsUncut claim.keep t u → keeps_instant claim t 1 ≡ false
    → until place.samples u (since place.samples t (kept_at claim (sampled file r.head ps) place)) ≡ []
kept_none claim file r place ps t u c p o e =
    let n = place.samples in
    let xs = points_at (sampled file r.head ps) place in
    ap (λ ys. until n u (since n t ys)) (points-are-kept claim file r.head place ps c p) ∙ kept-first claim n t u xs
    ∙ filter_none (λ x. keeps_instant claim x.num n) (until n u (since n t xs)) (λ x h. alike claim n t u xs x o h ∙ e)

-- ---- the channels of all pairs

pub windows_are : (claim : ClaimValue) (o e : Sampled) (t u : ℤ) (pairs : List Pair) (i : ℕ) (held : Option Found) → i ≡ 0
    → held ≡ earliest i (map (λ p. window_of claim o e t u (places_of p).0 (places_of p).1) (drop i pairs)) → held ≡ window_difference claim o e (map places_of pairs) t u
unfolding window_difference
windows_are claim o e t u pairs i held z h =
    h ∙ ap (λ j. earliest j (map (λ p. window_of claim o e t u (places_of p).0 (places_of p).1) (drop j pairs))) z
    ∙ ap (earliest 0) (sym (map-map (λ (p : Places). window_of claim o e t u p.0 p.1) places_of pairs))

-- the difference of the channels of a pair that has both
pub pair_window : (claim : ClaimValue) (o e : Sampled) (t u : ℤ) (pair : Pair) (here there : Track) (n m : ℕ) (xs ys : List Point) (d : Option PointDifference) → pair.original ≡ Some here → pair.export ≡ Some there
    → n ≡ here.place.samples → m ≡ there.place.samples
    → xs ≡ until here.place.samples u (since here.place.samples t (kept_at claim o here.place)) → ys ≡ until there.place.samples u (since there.place.samples t (points_at e there.place))
    → d ≡ first_difference_of n xs m ys → d ≡ window_of claim o e t u (places_of pair).0 (places_of pair).1
pair_window claim o e t u pair here there n m xs ys d eo ee en em ex ey found =
    found ∙ ap (λ k. first_difference_of k xs m ys) en ∙ ap (λ k. first_difference_of here.place.samples xs k ys) em
    ∙ ap (λ zs. first_difference_of here.place.samples zs there.place.samples ys) ex
    ∙ ap (λ zs. first_difference_of here.place.samples (until here.place.samples u (since here.place.samples t (kept_at claim o here.place))) there.place.samples zs) ey
    ∙ ap (λ x. window_of claim o e t u (option_map (λ (track : Track). track.place) x) (Some there.place)) (sym eo)
    ∙ ap (λ y. window_of claim o e t u (places_of pair).0 (option_map (λ (track : Track). track.place) y)) (sym ee)

-- the place of a difference is that of one of the channels
pub channel_more : (k count : ℕ) (next : Option PointDifference) (here held result : Option Found) → k < count → here ≡ option_map (found k) next → result ≡ earlier here held
    → IfSome held (λ f. f.channel < count) → IfSome result (λ f. f.channel < count)
channel_more k count next here held result lt eh er within =
    let P : Found → Type 0 = λ f. f.channel < count in
    let Q : Option Found → Type 0 = λ o. IfSome o P in
    let mine : IfSome here P = subst Q (sym eh) (mapped P k next (each next)) in
    subst Q (sym er) (earlier_both P here held mine within)
  where
    each : (o : Option PointDifference) → IfSome o (λ d. k < count)
    each None = tt
    each (Some d) = lt

pub both_some : (count : ℕ) (o : Option Found) → IfSome o (λ f. IsModest f.difference.at) → IfSome o (λ f. f.channel < count) → IfSome o (λ f. IsModest f.difference.at × (f.channel < count))
both_some count None m c = tt
both_some count (Some f) m c = (m, c)
