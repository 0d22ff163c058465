-- Data records that are alike show the same samples.
use Rattle.std.proofs.Common.{◌≡◌, ℕ, zero, suc, ◌+◌, ◌*◌, ◌≤◌, ◌<◌, ℤ, pos, ◌+ℤ◌, ◌*ℤ◌, true, List, [], ◌∷◌, take, length, get_or, inl, inr, map, Option, Some, None, option_map, IfSome, slice_get, refl, sym, ap, ◌∙◌, subst, arith}
use Rattle.std.specs.List.{All, AllWithin}
use Rattle.std.specs.Option.{option_map_or}
use Rattle.std.specs.Ordering.{int_eq}
use Rattle.std.proofs.lemmas.Bool.{cases_lt}
use Rattle.std.proofs.lemmas.Bool.Decides.{Decides-int_eq}
use Rattle.std.proofs.lemmas.Int.{ints}
use Rattle.std.proofs.lemmas.List.Elements.{All-head, All-tail}
use Rattle.edf_claim.specs.ClaimValues.{ClaimValue}
use Rattle.edf_claim.specs.Keeps.{keeps_instant}
use Rattle.edf_claim.specs.KeepsReading.{IsUncut}
use Rattle.edf_fields.specs.Parts.{part}
use Rattle.edf_fields.proofs.ForCallers.{and-true, get-index}
use Rattle.edf_header.specs.Heads.{SignalHead, Head}
use Rattle.edf_stream.specs.records.Readers.{Reader}
use Rattle.edf_stream.specs.records.Records.{lane_of}
use Rattle.edf_stream.specs.records.RecordsReading.{lane_in}
use Rattle.edf_stream.specs.times.Starts.{file_start}
use Rattle.edf_stream.specs.times.StartsReading.{start_in}
use Rattle.edf_samples.specs.declared.difference.PointDifference.{PointDifference}
use Rattle.edf_samples.specs.declared.point.Point.{Point}
use Rattle.edf_pace.specs.declared.walk.track.Pair.{Pair}
use Rattle.edf_pace.specs.declared.walk.track.Track.{Track}
use Rattle.edf_samples.specs.Differences.{first_difference_of, earliest}
use Rattle.edf_pace.specs.walk.Pairs.{AreLaidAlike, AreRecordsAlike, Places, places_of, IsTrack, ArePairs}
use Rattle.edf_samples.specs.Stretches.{stretch_points, since, until}
use Rattle.edf_pace.specs.walk.Windows.{sampled, points_at, window_of, window_difference}
use Rattle.edf_pace.specs.walk.Shown.{Covers}
use Rattle.edf_pace.proofs.walk.RecordFacts.{shown_points}
use Rattle.edf_pace.proofs.walk.ShownFacts.{covers_current, kept_all}
use Rattle.edf_samples.proofs.ForCallers.{alike-heads, scaled}
use Rattle.edf_pace.proofs.walk.TrackFacts.{lane_is}

-- ---- the same first bytes

take-take : (n m : ℕ) (xs : List ℕ) → n ≤ m → take n (take m xs) ≡ take n xs
take-take zero m xs le = refl
take-take (suc n) zero xs le = absurd (omega (arith, le))
take-take (suc n) (suc m) [] le = refl
take-take (suc n) (suc m) (x ∷ xs) le = ap (λ ys. x ∷ ys) (take-take n m xs (omega (arith, le)))

part-front : (o c n : ℕ) (xs : List ℕ) → o + c ≤ n → part (take n xs) o c ≡ part xs o c
part-front zero c n xs le = take-take c n xs (omega (arith, le))
part-front (suc o) c zero xs le = absurd (omega (arith, le))
part-front (suc o) c (suc n) [] le = refl
part-front (suc o) c (suc n) (x ∷ xs) le = part-front o c n xs (omega (arith, le))

same-part : (o c n : ℕ) (xs ys : List ℕ) → o + c ≤ n → take n xs ≡ take n ys → part xs o c ≡ part ys o c
same-part o c n xs ys le e = sym (part-front o c n xs le) ∙ ap (λ zs. part zs o c) e ∙ part-front o c n ys le

same-front : (n m : ℕ) (xs ys : List ℕ) → n ≤ m → take m xs ≡ take m ys → take n xs ≡ take n ys
same-front n m xs ys le e = sym (take-take n m xs le) ∙ ap (take n) e ∙ take-take n m ys le

numbered : (h : Head) (bytes : List ℕ) (i : ℕ) (x : SignalHead) → slice_get h.signals i ≡ Some x → lane_in h bytes i ≡ lane_of x bytes
numbered h bytes i x e = ap (λ o. option_map_or (λ (s : SignalHead). lane_of s bytes) o []) e

-- two signals that lie alike
pub laid_alike : (h g : Head) (i j : ℕ) (x y : SignalHead) (n : ℕ) → slice_get h.signals i ≡ Some x → slice_get g.signals j ≡ Some y → x.offset ≡ y.offset → x.samples ≡ y.samples → n ≡ x.offset + 2 * x.samples
    → (xs ys : List ℕ) → take n xs ≡ take n ys → lane_in h xs i ≡ lane_in g ys j
laid_alike h g i j x y n ex ey same few room xs ys e =
    numbered h xs i x ex ∙ same-part x.offset (2 * x.samples) n xs ys (omega (arith, room)) e
    ∙ ap (λ o. part ys o (2 * x.samples)) same ∙ ap (λ c. part ys y.offset (2 * c)) few ∙ sym (numbered g ys j y ey)

-- more room
laid-more : (h g : Head) (n m : ℕ) (pair : Pair) → n ≤ m → AreLaidAlike h g n pair → AreLaidAlike h g m pair
laid-more h g n m pair le laid = λ x y ex ey. ((laid x y ex ey).0, λ xs ys e. (laid x y ex ey).1 xs ys (same-front n m xs ys le e))

-- the signals of two tracks
pub both_laid : (h g : Head) (here there : Track) (x y : SignalHead) (r : Option ℕ) → IsTrack h here → IsTrack g there → x ≡ get_or h.signals here.signal x → y ≡ get_or g.signals there.signal y
    → x.offset ≡ y.offset → x.samples ≡ y.samples → IfSome r (λ n. n ≡ x.offset + 2 * x.samples)
    → IfSome r (λ n. (here.place.samples ≡ there.place.samples) × ((xs ys : List ℕ) → take n xs ≡ take n ys → lane_in h xs here.signal ≡ lane_in g ys there.signal))
both_laid h g here there x y None tx ty ex ey off few room = tt
both_laid h g here there x y (Some n) tx ty ex ey off few room =
    let p : x ≡ (tx.place).channel = ex ∙ get-index h.signals here.signal (tx.place).channel x tx.stands in
    let q : y ≡ (ty.place).channel = ey ∙ get-index g.signals there.signal (ty.place).channel y ty.stands in (
      (tx.place).samples ∙ ap (λ (s : SignalHead). s.samples) (sym p) ∙ few ∙ ap (λ (s : SignalHead). s.samples) q ∙ sym (ty.place).samples,
      laid_alike h g here.signal there.signal x y n (tx.stands ∙ ap Some (sym p)) (ty.stands ∙ ap Some (sym q)) off few room,
    )

-- inside a list it's all one what stands for what is beyond
get-any : (pairs : List Pair) (i : ℕ) (d e : Pair) → i < length pairs → get_or pairs i d ≡ get_or pairs i e
get-any [] i d e lt = absurd (omega (arith, lt))
get-any (p ∷ ps) zero d e lt = refl
get-any (p ∷ ps) (suc i) d e lt = get-any ps i d e (omega (arith, lt))

-- one pair more
pub next_laid : (h g : Head) (n m q i : ℕ) (pairs : List Pair) (e : Pair) → i < length pairs → n ≤ m → q ≤ m
    → AllWithin (AreLaidAlike h g n) pairs 0 i → AreLaidAlike h g q (get_or pairs i e) → AllWithin (AreLaidAlike h g m) pairs 0 (i + 1)
next_laid h g n m q i pairs e lt le ge before here = λ k d z l.
    elim (cases_lt k i) [
      | inl below ↦ laid-more h g n m (get_or pairs k d) le (before k d z below)
      | inr above ↦
          let same : i ≡ k = omega (arith, above, l) in
          let P : ℕ → Type 0 = λ j. AreLaidAlike h g m (get_or pairs j d) in
          subst P same (laid-more h g q m (get_or pairs i d) ge (let Q : Pair → Type 0 = AreLaidAlike h g q in subst Q (get-any pairs i e d lt) here))
    ]

-- ---- the same samples

none-first : (n : ℕ) (xs : List Point) → first_difference_of n xs n xs ≡ None
none-first n [] = refl
none-first n (x ∷ xs) = rw (alike-heads n n x.num x.num x.value refl) (none-first n xs)

same-start : (n : ℕ) (f a s f' a' s' : ℤ) → (f +ℤ a) +ℤ s ≡ (f' +ℤ a') +ℤ s' → (pos n *ℤ (f +ℤ s)) +ℤ (pos n *ℤ a) ≡ (pos n *ℤ (f' +ℤ s')) +ℤ (pos n *ℤ a')
same-start n f a s f' a' s' e =
    let whole : ℤ = (f +ℤ a) +ℤ s in
    let l : whole ≡ (f +ℤ s) +ℤ a = omega (arith, ints) in
    let r : whole ≡ (f' +ℤ s') +ℤ a' = omega (arith, ints, e) in
    sym (scaled n (f +ℤ s) a whole l) ∙ scaled n (f' +ℤ s') a' whole r

same-shown : (r s : Reader) (n : ℕ) (a b : ℤ) (pair : Pair) (x y : Track) → AreRecordsAlike r s n a b → AreLaidAlike r.head s.head n pair → pair.original ≡ Some x → pair.export ≡ Some y
    → (tx : IsTrack r.head x) (ty : IsTrack s.head y) → shown_points r.head a (tx.place).channel r.current ≡ shown_points s.head b (ty.place).channel s.current
same-shown r s n a b pair x y alike laid ex ey tx ty =
    let p = tx.place in
    let q = ty.place in
    let both = laid x y ex ey in
    let few : (p.channel).samples ≡ (q.channel).samples = sym p.samples ∙ both.0 ∙ q.samples in
    let lanes : lane_of p.channel r.current ≡ lane_of q.channel s.current =
    sym (lane_is r.head x tx r.current (lane_in r.head r.current x.signal) refl) ∙ both.1 r.current s.current alike.bytes ∙ lane_is s.head y ty s.current (lane_in s.head s.current y.signal) refl in
    let k = (p.channel).samples in
    let moment : ℤ → Reader → ℤ = λ c t. (file_start t.head +ℤ c) +ℤ start_in t.head t.current in
    let tested = and-true (int_eq (moment a r) (moment b s)) (int_eq (r.head).duration (s.head).duration) alike.together in
    let begins : moment a r ≡ moment b s = (Decides-int_eq (moment a r) (moment b s)).0 tested.0 in
    let lasts : (r.head).duration ≡ (s.head).duration = (Decides-int_eq (r.head).duration (s.head).duration).0 tested.1 in
    let start : ℕ → Reader → ℤ → ℤ = λ m t c. (pos m *ℤ (file_start t.head +ℤ start_in t.head t.current)) +ℤ (pos m *ℤ c) in
    let starts : start k r a ≡ start (q.channel).samples s b =
    same-start k (file_start r.head) a (start_in r.head r.current) (file_start s.head) b (start_in s.head s.current) begins ∙ ap (λ m. start m s b) few in
    ap (λ z. stretch_points z (r.head).duration (lane_of p.channel r.current)) starts
    ∙ ap (λ d. stretch_points (start (q.channel).samples s b) d (lane_of p.channel r.current)) lasts
    ∙ ap (λ bytes. stretch_points (start (q.channel).samples s b) (s.head).duration bytes) lanes

-- ---- no difference

none-window : (claim : ClaimValue) (o e : List ℕ) (r s : Reader) (n : ℕ) (a b t u : ℤ) (pair : Pair) → AreRecordsAlike r s n a b → AreLaidAlike r.head s.head n pair → IfSome pair.original (IsTrack r.head) → IfSome pair.export (IsTrack s.head)
    → IsUncut claim.keep t u → keeps_instant claim t 1 ≡ true → Covers r o a t u → Covers s e b t u
    → window_of claim (sampled o r.head a) (sampled e s.head b) t u (places_of pair).0 (places_of pair).1 ≡ None
none-window claim o e r s n a b t u pair alike laid here there uncut keeps ro se = by-case pair.original pair.export refl refl here there
  where
    by-case : (p q : Option Track) → pair.original ≡ p → pair.export ≡ q → IfSome p (IsTrack r.head) → IfSome q (IsTrack s.head)
        → window_of claim (sampled o r.head a) (sampled e s.head b) t u (option_map (λ track. track.place) p) (option_map (λ track. track.place) q) ≡ None
    by-case None q ep eq h k = refl
    by-case (Some x) None ep eq h k = refl
    by-case (Some x) (Some y) ep eq tx ty =
        let p = tx.place in
        let q = ty.place in
        let i = x.place.samples in
        let j = y.place.samples in
        let same : i ≡ j = (laid x y ep eq).0 in
        let xs = shown_points r.head a p.channel r.current in
        let kept = kept_all claim o r x.place a t u ro.conforms p uncut keeps ∙ covers_current r o x.place a t u p ro alike.original in
        let shown = covers_current s e y.place b t u q se alike.export in
        let points = same-shown r s n a b pair x y alike laid ep eq tx ty in
        ap (λ zs. first_difference_of i zs j (until j u (since j t (points_at (sampled e s.head b) y.place)))) kept
        ∙ ap (λ zs. first_difference_of i (until i u (since i t xs)) j zs) (shown ∙ ap (λ zs. until j u (since j t zs)) (sym points))
        ∙ ap (λ m. first_difference_of i (until i u (since i t xs)) m (until m u (since m t xs))) (sym same)
        ∙ none-first i (until i u (since i t xs))

none-earliest : (k : ℕ) (of : Places → Option PointDifference) (pairs : List Pair) → All (λ p. of (places_of p) ≡ None) pairs → earliest k (map of (map places_of pairs)) ≡ None
none-earliest k of [] none = refl
none-earliest k of (p ∷ ps) none =
    let here : of (places_of p) ≡ None = All-head (λ q. of (places_of q) ≡ None) p ps none in
    rw here (none-earliest (k + 1) of ps (All-tail (λ q. of (places_of q) ≡ None) p ps none))

pub none_different : (claim : ClaimValue) (o e : List ℕ) (r s : Reader) (n : ℕ) (a b t u : ℤ) (pairs : List Pair) → AreRecordsAlike r s n a b → All (AreLaidAlike r.head s.head n) pairs → ArePairs r.head s.head pairs
    → IsUncut claim.keep t u → keeps_instant claim t 1 ≡ true → Covers r o a t u → Covers s e b t u
    → None ≡ window_difference claim (sampled o r.head a) (sampled e s.head b) (map places_of pairs) t u
unfolding window_difference
none_different claim o e r s n a b t u pairs alike laid are uncut keeps ro se =
    sym (none-earliest 0 (λ p. window_of claim (sampled o r.head a) (sampled e s.head b) t u p.0 p.1) pairs
    (λ k d lt. none-window claim o e r s n a b t u _ alike (laid k d lt) (are k d lt).0 (are k d lt).1 uncut keeps ro se))
