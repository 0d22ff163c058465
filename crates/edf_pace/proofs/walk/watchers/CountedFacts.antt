-- What was counted by channel when a walk over two files has ended.
use Rattle.std.proofs.Common.{◌≡◌, ◌↔◌, ℕ, suc, ◌+◌, ◌<◌, ℤ, ◌≤ℤ◌, Bool, true, false, List, [], ◌∷◌, ◌++◌, length, map, Option, Some, None, option_map, IfSome, refl, sym, ap, ◌∙◌, arith, subst}
use Rattle.std.proofs.lemmas.Int.{ints}
use Rattle.std.proofs.lemmas.List.{append-nil, length-map}
use Rattle.std.specs.List.{AllByRecursion}
use Rattle.std.proofs.lemmas.Simd.{map-map}
use Rattle.edf_claim.specs.ClaimValues.{ClaimValue}
use Rattle.edf_header.specs.Heads.{Head}
use Rattle.edf_stream.specs.Conforming.{Conforms}
use Rattle.edf_stream.specs.annotation.Notes.{NoteValue}
use Rattle.edf_samples.specs.declared.difference.PointDifference.{PointDifference}
use Rattle.edf_samples.specs.declared.earliest.Found.{Found}
use Rattle.edf_samples.specs.declared.point.Point.{Point}
use Rattle.edf_samples.specs.declared.counts.tally.Tally.{Tally}
use Rattle.edf_pace.specs.declared.walk.channel_place.ChannelPlace.{ChannelPlace}
use Rattle.edf_pace.specs.declared.walk.frame.Frame.{Frame}
use Rattle.edf_pace.specs.declared.walk.lockstep.ReadOn.{ReadOn}
use Rattle.edf_pace.specs.declared.walk.turn.Turn.{Turn}
use Rattle.edf_pace.specs.walk.Columns.{Sampled}
use Rattle.edf_samples.specs.Stretches.{since, until}
use Rattle.edf_samples.specs.Differences.{earlier, earliest, found}
use Rattle.edf_samples.specs.Tallies.{differences_of, first_of, tally_of}
use Rattle.edf_pace.specs.walk.Counting.{AreCounts, counts_between, differences_in, differences_since, span_tallies, span_counts}
use Rattle.edf_pace.specs.walk.Spots.{count_in}
use Rattle.edf_pace.specs.declared.walk.watchers.found_in.ChannelCount.{ChannelCount}
use Rattle.edf_pace.specs.walk.Ends.{IsCounted, IsWalked}
use Rattle.edf_pace.specs.walk.Pairs.{IsPlaceIn, Places, places_in, places_of}
use Rattle.edf_pace.specs.walk.Shown.{ArePast, last_end_by}
use Rattle.edf_pace.specs.walk.Watching.{IsFirst, TwoFiles, moved_export, moved_original, two_files}
use Rattle.edf_pace.specs.walk.Windows.{kept_at, points_at, rest_difference, rest_of, sampled, span_difference, window_difference, window_of}
use Rattle.edf_samples.proofs.ForCallers.{since_split, IsAscending, first_is_first}
use Rattle.edf_pace.proofs.walk.LockstepFacts.{HasEnded}
use Rattle.edf_pace.proofs.walk.RecordFacts.{nothing-kept, nothing-left, points-ascend}
use Rattle.edf_pace.proofs.walk.SplitFacts.{ArePlaces, earlier_both, kept-ascend}
use Rattle.edf_pace.proofs.walk.watchers.CountFacts.{channel_first, none-both, none-first, none-mapped}
use Rattle.edf_pace.proofs.walk.WindowFacts.{window_none}

-- ---- behind the end of both files nothing is counted

none-behind : (n : ℕ) (t u : ℤ) (xs : List Point) → 0 < n → IsAscending xs → t ≤ℤ u → since n u xs ≡ [] → since n t xs ≡ until n u (since n t xs)
none-behind n t u xs pn asc le none = since_split n t u xs pn asc le ∙ ap (λ ys. until n u (since n t xs) ++ ys) none ∙ append-nil (until n u (since n t xs))

all-before : (claim : ClaimValue) (o e : List ℕ) (h g : Head) (a b t u : ℤ) (p q : Option ChannelPlace) → Conforms o h → Conforms e g → IfSome p (IsPlaceIn h) → IfSome q (IsPlaceIn g) → t ≤ℤ u
    → ArePast o h a h.records u → ArePast e g b g.records u → differences_in claim (sampled o h a) (sampled e g b) t u p q ≡ differences_since claim (sampled o h a) (sampled e g b) t p q
unfolding differences_in differences_since
all-before claim o e h g a b t u None q co ce ip iq le po pe = refl
all-before claim o e h g a b t u (Some p) None co ce ip iq le po pe = refl
all-before claim o e h g a b t u (Some p) (Some q) co ce ip iq le po pe =
    let n = p.samples in
    let m = q.samples in
    let xs = kept_at claim (sampled o h a) p in
    let ys = points_at (sampled e g b) q in
    ap (λ zs. differences_of n zs m (until m u (since m t ys))) (sym (none-behind n t u xs ip.some (kept-ascend claim o h p a co ip) le (nothing-kept claim o h p a u co ip po)))
    ∙ ap (λ zs. differences_of n (since n t xs) m zs) (sym (none-behind m t u ys iq.some (points-ascend e g q b ce iq) le (nothing-left e g q b u ce iq pe)))

counts-to-the-end : (claim : ClaimValue) (o e : List ℕ) (h g : Head) (a b t u v : ℤ) (ps : List Places) → Conforms o h → Conforms e g → ArePlaces h g ps → t ≤ℤ u → ArePast o h a h.records u → ArePast e g b g.records u
    → span_tallies false claim (sampled o h a) (sampled e g b) ps t u ≡ span_tallies true claim (sampled o h a) (sampled e g b) ps t v
unfolding ArePlaces
counts-to-the-end claim o e h g a b t u v [] co ce all le po pe = refl
counts-to-the-end claim o e h g a b t u v (p ∷ ps) co ce all le po pe =
    rw (all-before claim o e h g a b t u p.0 p.1 co ce all.0 all.1 le po pe, counts-to-the-end claim o e h g a b t u v ps co ce all.2 le po pe) refl

-- ---- what a watcher holds that keeps the first difference, beside an onlooker that counts

-- it has found nothing at the begin
none_yet : (frame : Frame) (files : TwoFiles) (t : ℤ) → IsFirst None frame files t t
none_yet frame files t =
    sym (window_none ((frame.turn).setting.claim).now (sampled files.original files.head (moved_original frame.turn)) (sampled files.export files.export_head (moved_export frame.turn)) (map places_of (frame.pairs).now) t)

abbrev HoldsBoth : Option Found → Bool → List ChannelCount → Frame → TwoFiles → ℤ → ℤ → Type 0
HoldsBoth found looks tallies frame files t u = IsFirst found frame files t u × (looks ≡ true → AreCounts tallies frame files t u)

pub first_walked : (frame : Frame) (files : TwoFiles) (found : Option Found) (looks looks' : Bool) (before tallies : List ChannelCount) (enough : Bool) (walked : ReadOn)
    → (looks ≡ true → AreCounts before frame files ((frame.turn).from).ps ((frame.turn).from).ps)
    → IsWalked frame.turn files (HoldsBoth None looks before frame) (HoldsBoth found looks' tallies frame) enough walked → IsWalked frame.turn files (IsFirst None frame) (IsFirst found frame) enough walked
first_walked frame files found looks looks' before tallies enough walked begun is = record { holds = λ co ce held. (is.holds co ce (held, begun)).0; within = is.within; ends = is.ends }

pub tallies_walked : (frame : Frame) (files : TwoFiles) (found : Option Found) (looks looks' : Bool) (before tallies : List ChannelCount) (enough : Bool) (walked : ReadOn) → looks' ≡ true
    → IsWalked frame.turn files (HoldsBoth None looks before frame) (HoldsBoth found looks' tallies frame) enough walked → IsWalked frame.turn files (AreCounts before frame) (AreCounts tallies frame) enough walked
tallies_walked frame files found looks looks' before tallies enough walked so is =
    record { holds = λ co ce held. (is.holds co ce (none_yet frame files ((frame.turn).from).ps, λ l. held)).1 so; within = is.within; ends = is.ends }

-- ---- nothing is the first exactly where nothing is counted

since-first : (claim : ClaimValue) (o e : Sampled) (t : ℤ) (p q : Option ChannelPlace) → rest_of claim o e t p q ≡ first_of (differences_since claim o e t p q)
unfolding differences_since
since-first claim o e t None q = refl
since-first claim o e t (Some p) None = refl
since-first claim o e t (Some p) (Some q) = first_is_first p.samples (since p.samples t (kept_at claim o p)) q.samples (since q.samples t (points_at e q))

nothing-tallied : (ds : List PointDifference) → first_of ds ≡ None → tally_of ds ≡ tally_of []
nothing-tallied ds none = ap tally_of (none-first ds none)

no-first : (ds : List PointDifference) → tally_of ds ≡ tally_of [] → first_of ds ≡ None
unfolding tally_of
no-first ds none = ap (λ (tally : Tally). tally.first) none

none-earliest : (f : Places → Option PointDifference) (g : Places → List PointDifference) → ((p : Places) → f p ≡ first_of (g p)) → (k : ℕ) (places : List Places)
    → (earliest k (map f places) ≡ None) ↔ AllByRecursion (λ (tally : Tally). tally ≡ tally_of []) (map (λ (p : Places). tally_of (g p)) places)
none-earliest f g same k [] = (λ e. tt, λ a. refl)
none-earliest f g same k (p ∷ ps) = (
  λ e.
      let both = none-both (option_map (found k) (f p)) (earliest (k + 1) (map f ps)) e in
      (nothing-tallied (g p) (sym (same p) ∙ none-mapped k (f p) both.0), (none-earliest f g same (k + 1) ps).0 both.1),
  λ a.
      ap (λ d. earlier (option_map (found k) d) (earliest (k + 1) (map f ps))) (same p ∙ no-first (g p) a.0)
      ∙ (none-earliest f g same (k + 1) ps).1 a.1,
)

-- between two times, or from one on, there is no difference exactly where each tally is that of none
pub none_in_span : (last : Bool) (claim : ClaimValue) (o e : Sampled) (places : List Places) (t u : ℤ) → (span_difference last claim o e places t u ≡ None) ↔ AllByRecursion (λ (tally : Tally). tally ≡ tally_of []) (span_tallies last claim o e places t u)
unfolding rest_difference window_difference
none_in_span true claim o e places t u = none-earliest (λ p. rest_of claim o e t p.0 p.1) (λ p. differences_since claim o e t p.0 p.1) (λ p. since-first claim o e t p.0 p.1) 0 places
none_in_span false claim o e places t u = none-earliest (λ p. window_of claim o e t u p.0 p.1) (λ p. differences_in claim o e t u p.0 p.1) (λ p. channel_first claim o e t u p.0 p.1) 0 places

-- the first difference is one of the channels
among-mapped : (k n : ℕ) (d : Option PointDifference) → k < n → IfSome (option_map (found k) d) (λ f. f.channel < n)
among-mapped k n None lt = tt
among-mapped k n (Some d) lt = lt

among-all : (k : ℕ) (ds : List (Option PointDifference)) → IfSome (earliest k ds) (λ f. f.channel < k + length ds)
among-all k [] = tt
among-all k (d ∷ ds) =
    earlier_both (λ f. f.channel < k + suc (length ds)) (option_map (found k) d) (earliest (k + 1) ds) (among-mapped k (k + suc (length ds)) d (omega arith))
    (subst (λ n. IfSome (earliest (k + 1) ds) (λ f. f.channel < n)) (let e : (k + 1) + length ds ≡ k + suc (length ds) = omega arith in e) (among-all (k + 1) ds))

among-first : (ds : List (Option PointDifference)) → IfSome (earliest 0 ds) (λ f. f.channel < length ds)
among-first ds = subst (λ n. IfSome (earliest 0 ds) (λ f. f.channel < n)) (let e : 0 + length ds ≡ length ds = omega arith in e) (among-all 0 ds)

pub found_among : (last : Bool) (claim : ClaimValue) (o e : Sampled) (places : List Places) (t u : ℤ) → IfSome (span_difference last claim o e places t u) (λ f. f.channel < length places)
unfolding rest_difference window_difference
found_among true claim o e places t u = subst (λ n. IfSome (earliest 0 (map (λ (p : Places). rest_of claim o e t p.0 p.1) places)) (λ f. f.channel < n)) (length-map places (λ (p : Places). rest_of claim o e t p.0 p.1)) (among-first (map (λ (p : Places). rest_of claim o e t p.0 p.1) places))
found_among false claim o e places t u = subst (λ n. IfSome (earliest 0 (map (λ (p : Places). window_of claim o e t u p.0 p.1) places)) (λ f. f.channel < n)) (length-map places (λ (p : Places). window_of claim o e t u p.0 p.1)) (among-first (map (λ (p : Places). window_of claim o e t u p.0 p.1) places))

-- ---- the end

-- the tallies are those from the turn's time on, and before a time that all of both is past
module _ (frame : Frame) (x : List ℕ) (h : Head) (y : List ℕ) (g : Head) (w : ReadOn) (enough : Bool) (before tallies : List ChannelCount) (same : map places_of (frame.pairs).now ≡ places_in h g (((frame.turn).setting).labels).now)
    (places : ArePlaces h g (map places_of (frame.pairs).now)) (from : ((frame.turn).from).ps ≤ℤ (w.seen).ps) (at : (w.seen).ps ≡ (w.reached).ps)
    (begun : AreCounts before frame (two_files x h y g) ((frame.turn).from).ps ((frame.turn).from).ps)
    (is : IsWalked frame.turn (two_files x h y g) (AreCounts before frame) (AreCounts tallies frame) enough w) where
  abbrev turn : Turn
  turn = frame.turn

  abbrev ps : List Places
  ps = map places_of (frame.pairs).now

  abbrev claim : ClaimValue
  claim = ((turn.setting).claim).now

  abbrev a : ℤ
  a = moved_original turn

  abbrev b : ℤ
  b = moved_export turn

  abbrev s : ℤ
  s = (turn.from).ps

  abbrev v : ℤ
  v = last_end_by y g b

  abbrev Spans : Bool → List Places → Type 0
  Spans last places' = tallies ≡ span_counts last claim (two_files x h y g) a b places' s v

  seen : Conforms x h → Conforms y g → tallies ≡ span_counts false claim (two_files x h y g) a b ps s (w.reached).ps
  seen co ce =
      let P : ℤ → Type 0 = λ u. tallies ≡ counts_between frame (two_files x h y g) s u in
      subst P at (is.holds co ce begun)
      ∙ ap (map (count_in (two_files x h y g) a b)) (sym (map-map (λ (p : Places). tally_of (differences_in claim (sampled x h a) (sampled y g b) s (w.reached).ps p.0 p.1)) places_of (frame.pairs).now))

  over : (last : Bool) → turn.is_last ≡ last → Spans last ps → Spans turn.is_last (places_in h g ((turn.setting).labels).now)
  over last e p = let P : Bool → Type 0 = λ l. Spans l (places_in h g ((turn.setting).labels).now) in subst P (sym e) (subst (Spans last) same p)

  pub counted_end : {lo le : List ℕ} {ns ms : List NoteValue} → turn.is_last ≡ true → HasEnded lo ns x h (Some claim) a (w.reached).ps → HasEnded le ms y g None b (w.reached).ps → IsCounted turn x h y g tallies
  counted_end last o e = λ co.
      let ce = (e.through).conforms in
      let le : s ≤ℤ (w.reached).ps = omega (arith, ints, from, at) in
      over true last (seen co ce ∙ ap (map (count_in (two_files x h y g) a b)) (counts-to-the-end claim x y h g a b s (w.reached).ps v ps co ce places le o.past e.past))

  pub counted_in_part : turn.is_last ≡ false → enough ≡ false → Conforms y g → IsCounted turn x h y g tallies
  counted_in_part last more ce = λ co.
      let P : ℤ → Type 0 = λ u. tallies ≡ span_counts false claim (two_files x h y g) a b ps s u in
      over false last (subst P (is.ends more last) (seen co ce))
