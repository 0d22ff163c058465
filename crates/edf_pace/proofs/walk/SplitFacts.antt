-- The earliest difference from a time on is that before a later time, or else that from there on.
use Rattle.std.proofs.Common.{◌≡◌, ℕ, ◌+◌, ◌<◌, ℤ, ◌≤ℤ◌, Bool, true, false, cond, List, [], ◌∷◌, ◌++◌, map, Option, Some, None, option_map, IfSome, refl, sym, ap, ◌∙◌, lit<, subst}
use Rattle.std.specs.Option.{option_or}
use Rattle.edf_claim.specs.ClaimValues.{ClaimValue}
use Rattle.edf_claim.specs.Keeps.{keeps_instant}
use Rattle.edf_header.specs.Heads.{Head}
use Rattle.edf_stream.specs.declared.times.instant.Instant.{Instant}
use Rattle.edf_stream.specs.Conforming.{Conforms}
use Rattle.edf_stream.specs.times.InstantOrder.{IsNotBefore}
use Rattle.edf_pace.specs.declared.walk.channel_place.ChannelPlace.{ChannelPlace}
use Rattle.edf_samples.specs.declared.difference.PointDifference.{PointDifference}
use Rattle.edf_samples.specs.declared.earliest.Found.{Found}
use Rattle.edf_samples.specs.declared.point.Point.{Point}
use Rattle.edf_pace.specs.walk.Columns.{Sampled}
use Rattle.edf_samples.specs.Differences.{first_difference_of, found, earlier, earliest}
use Rattle.edf_samples.specs.InstantOrder.{IsBefore, is_before}
use Rattle.edf_samples.specs.Stretches.{whole, since, until}
use Rattle.edf_pace.specs.walk.Windows.{sampled, points_at, kept_at, rest_of, window_of, rest_difference, window_difference}
use Rattle.edf_pace.specs.walk.Pairs.{Places, IsPlaceIn}
use Rattle.edf_pace.specs.walk.Shown.{ArePast}
use Rattle.edf_samples.proofs.ForCallers.{since_split, since-from, until-before, filter-ascending, difference_splits, difference-before, difference-from, IsAscending, or_assoc, before-not_before, before_below, true-is_before, false-is_before}
use Rattle.edf_pace.proofs.walk.RecordFacts.{points-are-kept, points-ascend, nothing-left, nothing-kept}
use Rattle.std.proofs.lemmas.Simd.{map-map}

-- ---- the earliest of fronts and of backs

-- each front is before t, and each back from t on
abbrev pub AreSides : Instant → List (Option PointDifference × Option PointDifference) → Type 0
AreSides t [] = Unit {0}
AreSides t (p ∷ ps) = IfSome p.0 (λ d. IsBefore d.at t) × IfSome p.1 (λ d. (0 < d.at.den) × IsNotBefore d.at t) × AreSides t ps

abbrev FrontOf : Instant → Option Found → Type 0
FrontOf t o = IfSome o (λ f. IsBefore f.difference.at t)

abbrev BackOf : Instant → Option Found → Type 0
BackOf t o = IfSome o (λ f. (0 < f.difference.at.den) × IsNotBefore f.difference.at t)

chosen : (P : Found → Type 0) (t : Bool) (a b : Found) → P a → P b → IfSome (cond t (Some b) (Some a)) P
chosen P true a b h i = i
chosen P false a b h i = h

-- `earlier` keeps what holds of both
pub earlier_both : (P : Found → Type 0) (a b : Option Found) → IfSome a P → IfSome b P → IfSome (earlier a b) P
earlier_both P None b h i = i
earlier_both P (Some a) None h i = h
earlier_both P (Some a) (Some b) h i = chosen P (is_before b.difference.at a.difference.at) a b h i

pub mapped : (P : Found → Type 0) (k : ℕ) (o : Option PointDifference) → IfSome o (λ d. P (found k d)) → IfSome (option_map (found k) o) P
mapped P k None h = h
mapped P k (Some d) h = h

fronts_before : (t : Instant) (k : ℕ) (ps : List (Option PointDifference × Option PointDifference)) → AreSides t ps → FrontOf t (earliest k (map (λ p. p.0) ps))
fronts_before t k [] s = tt
fronts_before t k (p ∷ ps) s =
    earlier_both (λ f. IsBefore f.difference.at t) (option_map (found k) p.0) (earliest (k + 1) (map (λ q. q.0) ps))
    (mapped (λ f. IsBefore f.difference.at t) k p.0 s.0) (fronts_before t (k + 1) ps s.2)

backs_from : (t : Instant) (k : ℕ) (ps : List (Option PointDifference × Option PointDifference)) → AreSides t ps → BackOf t (earliest k (map (λ p. p.1) ps))
backs_from t k [] s = tt
backs_from t k (p ∷ ps) s =
    let P : Found → Type 0 = λ f. (0 < f.difference.at.den) × IsNotBefore f.difference.at t in
    earlier_both P (option_map (found k) p.1) (earliest (k + 1) (map (λ q. q.1) ps)) (mapped P k p.1 s.1) (backs_from t (k + 1) ps s.2)

or_chosen : (t : Bool) (a b : Found) (o : Option Found) → cond t (Some b) (Some a) ≡ option_or (cond t (Some b) (Some a)) o
or_chosen true a b o = refl
or_chosen false a b o = refl

-- a front is before each back
below : (t : Instant) (f b : Found) → IsBefore f.difference.at t → (0 < b.difference.at.den) × IsNotBefore b.difference.at t → IsBefore f.difference.at b.difference.at
below t f b hf hb = before-not_before f.difference.at t b.difference.at hb.0 hf hb.1

-- one channel's front and back, and those of the channels after it
regroup : (t : Instant) (f b F B : Option Found) → FrontOf t f → BackOf t b → FrontOf t F → BackOf t B →
    earlier (option_or f b) (option_or F B) ≡ option_or (earlier f F) (earlier b B)
regroup t None b None B hf hb hF hB = refl
regroup t None None (Some F) B hf hb hF hB = refl
regroup t None (Some b) (Some F) B hf hb hF hB = rw (true-is_before F.difference.at b.difference.at (below t F b hF hb))
regroup t (Some f) b None None hf hb hF hB = refl
regroup t (Some f) b None (Some B) hf hb hF hB = rw (false-is_before B.difference.at f.difference.at (before_below f.difference.at B.difference.at (below t f B hf hB)))
regroup t (Some f) b (Some F) B hf hb hF hB = or_chosen (is_before F.difference.at f.difference.at) f F (earlier b B)

or_mapped : (k : ℕ) (a b : Option PointDifference) → option_map (found k) (option_or a b) ≡ option_or (option_map (found k) a) (option_map (found k) b)
or_mapped k None b = refl
or_mapped k (Some a) b = refl

pub earliest-splits : (t : Instant) (k : ℕ) (ps : List (Option PointDifference × Option PointDifference)) → AreSides t ps →
    earliest k (map (λ p. option_or p.0 p.1) ps) ≡ option_or (earliest k (map (λ p. p.0) ps)) (earliest k (map (λ p. p.1) ps))
earliest-splits t k [] s = refl
earliest-splits t k (p ∷ ps) s =
    let P : Found → Type 0 = λ f. (0 < f.difference.at.den) × IsNotBefore f.difference.at t in
    rw (or_mapped k p.0 p.1, earliest-splits t (k + 1) ps s.2)
    (regroup t (option_map (found k) p.0) (option_map (found k) p.1) (earliest (k + 1) (map (λ q. q.0) ps)) (earliest (k + 1) (map (λ q. q.1) ps))
    (mapped (λ f. IsBefore f.difference.at t) k p.0 s.0) (mapped P k p.1 s.1) (fronts_before t (k + 1) ps s.2) (backs_from t (k + 1) ps s.2))

-- ---- one channel of both files

-- where both are there, each has samples, and they rise
unfoldable pub AreSound : ClaimValue → Sampled → Sampled → Option ChannelPlace → Option ChannelPlace → Type 0
AreSound claim o e None q = Unit {0}
AreSound claim o e (Some p) None = Unit {0}
AreSound claim o e (Some p) (Some q) = (0 < p.samples) × (0 < q.samples) × IsAscending (kept_at claim o p) × IsAscending (points_at e q)

place_splits : (claim : ClaimValue) (o e : Sampled) (p q : Option ChannelPlace) (t u : ℤ) → AreSound claim o e p q → t ≤ℤ u → rest_of claim o e t p q ≡ option_or (window_of claim o e t u p q) (rest_of claim o e u p q)
unfolding AreSound
place_splits claim o e None q t u sound l = refl
place_splits claim o e (Some p) None t u sound l = refl
place_splits claim o e (Some p) (Some q) t u sound l =
    let n = p.samples in
    let m = q.samples in
    let xs = kept_at claim o p in
    let ys = points_at e q in
    ap (λ zs. first_difference_of n zs m (since m t ys)) (since_split n t u xs sound.0 sound.2 l)
    ∙ ap (λ zs. first_difference_of n (until n u (since n t xs) ++ since n u xs) m zs) (since_split m t u ys sound.1 sound.3 l)
    ∙ difference_splits n m (until n u (since n t xs)) (since n u xs) (until m u (since m t ys)) (since m u ys) (whole u) sound.0 sound.1 (lit< tt)
    (until-before n u (since n t xs)) (until-before m u (since m t ys)) (since-from n u xs) (since-from m u ys)

pub place_before : (claim : ClaimValue) (o e : Sampled) (p q : Option ChannelPlace) (t u : ℤ) → AreSound claim o e p q → IfSome (window_of claim o e t u p q) (λ d. IsBefore d.at (whole u))
unfolding AreSound
place_before claim o e None q t u sound = tt
place_before claim o e (Some p) None t u sound = tt
place_before claim o e (Some p) (Some q) t u sound =
    let n = p.samples in
    let m = q.samples in
    difference-before n (until n u (since n t (kept_at claim o p))) m (until m u (since m t (points_at e q))) (whole u) (until-before n u (since n t (kept_at claim o p))) (until-before m u (since m t (points_at e q)))

place_from : (claim : ClaimValue) (o e : Sampled) (p q : Option ChannelPlace) (u : ℤ) → AreSound claim o e p q → IfSome (rest_of claim o e u p q) (λ d. (0 < d.at.den) × IsNotBefore d.at (whole u))
unfolding AreSound
place_from claim o e None q u sound = tt
place_from claim o e (Some p) None u sound = tt
place_from claim o e (Some p) (Some q) u sound =
    difference-from p.samples (since p.samples u (kept_at claim o p)) q.samples (since q.samples u (points_at e q)) (whole u) sound.0 sound.1
    (since-from p.samples u (kept_at claim o p)) (since-from q.samples u (points_at e q))

-- ---- all channels

unfoldable pub AllSound : ClaimValue → Sampled → Sampled → List Places → Type 0
AllSound claim o e [] = Unit {0}
AllSound claim o e (p ∷ ps) = AreSound claim o e p.0 p.1 × AllSound claim o e ps

sides_of : ClaimValue → Sampled → Sampled → ℤ → ℤ → Places → Option PointDifference × Option PointDifference
sides_of claim o e t u p = (window_of claim o e t u p.0 p.1, rest_of claim o e u p.0 p.1)

are_sides : (claim : ClaimValue) (o e : Sampled) (ps : List Places) (t u : ℤ) → AllSound claim o e ps → AreSides (whole u) (map (sides_of claim o e t u) ps)
unfolding AllSound sides_of
are_sides claim o e [] t u sound = tt
are_sides claim o e (p ∷ ps) t u sound = (place_before claim o e p.0 p.1 t u sound.0, place_from claim o e p.0 p.1 u sound.0, are_sides claim o e ps t u sound.1)

rests : (claim : ClaimValue) (o e : Sampled) (ps : List Places) (t u : ℤ) → AllSound claim o e ps → t ≤ℤ u → map (λ p. rest_of claim o e t p.0 p.1) ps ≡ map (λ q. option_or q.0 q.1) (map (sides_of claim o e t u) ps)
unfolding AllSound sides_of
rests claim o e [] t u sound l = refl
rests claim o e (p ∷ ps) t u sound l = rw (place_splits claim o e p.0 p.1 t u sound.0 l, rests claim o e ps t u sound.1 l) refl

pub all_splits : (claim : ClaimValue) (o e : Sampled) (ps : List Places) (t u : ℤ) → AllSound claim o e ps → t ≤ℤ u → rest_difference claim o e ps t ≡ option_or (window_difference claim o e ps t u) (rest_difference claim o e ps u)
unfolding rest_difference window_difference sides_of
all_splits claim o e ps t u sound l =
    ap (earliest 0) (rests claim o e ps t u sound l)
    ∙ earliest-splits (whole u) 0 (map (sides_of claim o e t u) ps) (are_sides claim o e ps t u sound)
    ∙ ap (λ ds. option_or (earliest 0 ds) (earliest 0 (map (λ q. q.1) (map (sides_of claim o e t u) ps)))) (map-map (λ q. q.0) (sides_of claim o e t u) ps)
    ∙ ap (λ ds. option_or (earliest 0 (map (λ p. window_of claim o e t u p.0 p.1) ps)) (earliest 0 ds)) (map-map (λ q. q.1) (sides_of claim o e t u) ps)

-- the places are those of channels of two headers
unfoldable pub ArePlaces : Head → Head → List Places → Type 0
ArePlaces h g [] = Unit {0}
ArePlaces h g (p ∷ ps) = IfSome p.0 (IsPlaceIn h) × IfSome p.1 (IsPlaceIn g) × ArePlaces h g ps

pub kept-ascend : (claim : ClaimValue) (file : List ℕ) (h : Head) (p : ChannelPlace) (ps : ℤ) → Conforms file h → IsPlaceIn h p → IsAscending (kept_at claim (sampled file h ps) p)
kept-ascend claim file h p ps c is =
    let P : List Point → Type 0 = IsAscending in
    subst P (sym (points-are-kept claim file h p ps c is)) (filter-ascending (λ x. keeps_instant claim x.num p.samples) (points_at (sampled file h ps) p) (points-ascend file h p ps c is))

sound_place : (claim : ClaimValue) (o e : List ℕ) (h g : Head) (a b : ℤ) (p q : Option ChannelPlace) → Conforms o h → Conforms e g → IfSome p (IsPlaceIn h) → IfSome q (IsPlaceIn g) → AreSound claim (sampled o h a) (sampled e g b) p q
unfolding AreSound
sound_place claim o e h g a b None q co ce ip iq = tt
sound_place claim o e h g a b (Some p) None co ce ip iq = tt
sound_place claim o e h g a b (Some p) (Some q) co ce ip iq = (ip.some, iq.some, kept-ascend claim o h p a co ip, points-ascend e g q b ce iq)

pub all_sound : (claim : ClaimValue) (o e : List ℕ) (h g : Head) (a b : ℤ) (ps : List Places) → Conforms o h → Conforms e g → ArePlaces h g ps → AllSound claim (sampled o h a) (sampled e g b) ps
unfolding AllSound ArePlaces
all_sound claim o e h g a b [] co ce all = tt
all_sound claim o e h g a b (p ∷ ps) co ce all = (sound_place claim o e h g a b p.0 p.1 co ce all.0 all.1, all_sound claim o e h g a b ps co ce all.2)

-- what is held so far, and what is left
pub step : (claim : ClaimValue) (o e : List ℕ) (h g : Head) (a b : ℤ) (ps : List Places) (t u : ℤ) (held all : Option Found) → Conforms o h → Conforms e g → ArePlaces h g ps → t ≤ℤ u
    → all ≡ option_or held (rest_difference claim (sampled o h a) (sampled e g b) ps t)
    → all ≡ option_or (option_or held (window_difference claim (sampled o h a) (sampled e g b) ps t u)) (rest_difference claim (sampled o h a) (sampled e g b) ps u)
step claim o e h g a b ps t u held all co ce places l before =
    before ∙ ap (option_or held) (all_splits claim (sampled o h a) (sampled e g b) ps t u (all_sound claim o e h g a b ps co ce places) l)
    ∙ or_assoc held (window_difference claim (sampled o h a) (sampled e g b) ps t u) (rest_difference claim (sampled o h a) (sampled e g b) ps u)

-- ---- at the end

place_end : (claim : ClaimValue) (o e : List ℕ) (h g : Head) (a b t : ℤ) (p q : Option ChannelPlace) → Conforms o h → Conforms e g → IfSome p (IsPlaceIn h) → IfSome q (IsPlaceIn g)
    → ArePast o h a h.records t → ArePast e g b g.records t → rest_of claim (sampled o h a) (sampled e g b) t p q ≡ None
place_end claim o e h g a b t None q co ce ip iq po pe = refl
place_end claim o e h g a b t (Some p) None co ce ip iq po pe = refl
place_end claim o e h g a b t (Some p) (Some q) co ce ip iq po pe =
    ap (λ xs. first_difference_of p.samples xs q.samples (since q.samples t (points_at (sampled e g b) q))) (nothing-kept claim o h p a t co ip po)
    ∙ ap (λ ys. first_difference_of p.samples [] q.samples ys) (nothing-left e g q b t ce iq pe)

places_end : (claim : ClaimValue) (o e : List ℕ) (h g : Head) (a b t : ℤ) (k : ℕ) (ps : List Places) → Conforms o h → Conforms e g → ArePlaces h g ps → ArePast o h a h.records t → ArePast e g b g.records t
    → earliest k (map (λ p. rest_of claim (sampled o h a) (sampled e g b) t p.0 p.1) ps) ≡ None
unfolding ArePlaces
places_end claim o e h g a b t k [] co ce all po pe = refl
places_end claim o e h g a b t k (p ∷ ps) co ce all po pe = rw (place_end claim o e h g a b t p.0 p.1 co ce all.0 all.1 po pe, places_end claim o e h g a b t (k + 1) ps co ce all.2 po pe) refl

or_none : {A : Type 0} (o : Option A) → option_or o None ≡ o
or_none None = refl
or_none (Some x) = refl

-- where both files are past, what is held is all
pub at_end : (claim : ClaimValue) (o e : List ℕ) (h g : Head) (a b : ℤ) (ps : List Places) (t : ℤ) (held all : Option Found) → Conforms o h → Conforms e g → ArePlaces h g ps → ArePast o h a h.records t → ArePast e g b g.records t
    → all ≡ option_or held (rest_difference claim (sampled o h a) (sampled e g b) ps t) → held ≡ all
unfolding rest_difference
at_end claim o e h g a b ps t held all co ce places po pe before =
    sym (before ∙ ap (option_or held) (places_end claim o e h g a b t 0 ps co ce places po pe) ∙ or_none held)
