-- The earliest difference between two times is that before a time between them, or else that from there on.
use Rattle.std.proofs.Common.{◌≡◌, ℕ, ◌+◌, ◌<◌, ℤ, ◌≤ℤ◌, List, [], ◌∷◌, ◌++◌, map, Option, Some, None, IfSome, refl, ap, ◌∙◌, lit<}
use Rattle.std.proofs.lemmas.List.Elements.{filter-append}
use Rattle.std.specs.Option.{option_or}
use Rattle.edf_claim.specs.ClaimValues.{ClaimValue}
use Rattle.edf_fields.proofs.ForCallers.{has-filtered}
use Rattle.edf_header.specs.Heads.{Head}
use Rattle.edf_stream.specs.Conforming.{Conforms}
use Rattle.edf_stream.specs.times.InstantOrder.{IsNotBefore}
use Rattle.edf_pace.specs.declared.walk.channel_place.ChannelPlace.{ChannelPlace}
use Rattle.edf_samples.specs.declared.difference.PointDifference.{PointDifference}
use Rattle.edf_samples.specs.declared.point.Point.{Point}
use Rattle.edf_pace.specs.walk.Columns.{Sampled}
use Rattle.edf_samples.specs.Stretches.{whole, since, until}
use Rattle.edf_samples.specs.Differences.{instant, first_difference_of, earliest}
use Rattle.edf_samples.specs.InstantOrder.{is_before}
use Rattle.edf_pace.specs.walk.Pairs.{Places}
use Rattle.edf_pace.specs.walk.Windows.{sampled, points_at, kept_at, window_of, rest_difference, window_difference}
use Rattle.edf_samples.proofs.ForCallers.{since_split, since-from, until-before, until_none, later, difference_splits, difference-from, IsAscending, AreFrom, filter_all, true-is_before}
use Rattle.edf_pace.proofs.walk.SplitFacts.{AreSides, earliest-splits, AreSound, AllSound, place_before, all_sound, all_splits, ArePlaces}
use Rattle.std.proofs.lemmas.Simd.{map-map}

-- ---- one channel

until_until : (n : ℕ) (u v : ℤ) (xs : List Point) → u ≤ℤ v → until n v (until n u xs) ≡ until n u xs
until_until n u v xs l = filter_all (λ x. is_before (instant n x) (whole v)) (until n u xs) (λ x i. true-is_before (instant n x) (whole v) (later (instant n x) u v l (until-before n u xs x i)))

pub window_split : (n : ℕ) (t u v : ℤ) (xs : List Point) → 0 < n → IsAscending xs → t ≤ℤ u → u ≤ℤ v → until n v (since n t xs) ≡ until n u (since n t xs) ++ until n v (since n u xs)
window_split n t u v xs pn a l r =
    ap (until n v) (since_split n t u xs pn a l)
    ∙ filter-append (λ x. is_before (instant n x) (whole v)) (until n u (since n t xs)) (since n u xs)
    ∙ ap (λ ys. ys ++ until n v (since n u xs)) (until_until n u v (since n t xs) r)

pub until-from : (n : ℕ) (u v : ℤ) (xs : List Point) → AreFrom n (until n v (since n u xs)) (whole u)
until-from n u v xs x i = since-from n u xs x (has-filtered (λ y. is_before (instant n y) (whole v)) (since n u xs) x i).0

place_parts : (claim : ClaimValue) (o e : Sampled) (p q : Option ChannelPlace) (t u v : ℤ) → AreSound claim o e p q → t ≤ℤ u → u ≤ℤ v → window_of claim o e t v p q ≡ option_or (window_of claim o e t u p q) (window_of claim o e u v p q)
unfolding AreSound
place_parts claim o e None q t u v sound l r = refl
place_parts claim o e (Some p) None t u v sound l r = refl
place_parts claim o e (Some p) (Some q) t u v sound l r =
    let n = p.samples in
    let m = q.samples in
    let xs = kept_at claim o p in
    let ys = points_at e q in
    ap (λ zs. first_difference_of n zs m (until m v (since m t ys))) (window_split n t u v xs sound.0 sound.2 l r)
    ∙ ap (λ zs. first_difference_of n (until n u (since n t xs) ++ until n v (since n u xs)) m zs) (window_split m t u v ys sound.1 sound.3 l r)
    ∙ difference_splits n m (until n u (since n t xs)) (until n v (since n u xs)) (until m u (since m t ys)) (until m v (since m u ys)) (whole u) sound.0 sound.1 (lit< tt)
    (until-before n u (since n t xs)) (until-before m u (since m t ys)) (until-from n u v xs) (until-from m u v ys)

place_from : (claim : ClaimValue) (o e : Sampled) (p q : Option ChannelPlace) (u v : ℤ) → AreSound claim o e p q → IfSome (window_of claim o e u v p q) (λ d. (0 < d.at.den) × IsNotBefore d.at (whole u))
unfolding AreSound
place_from claim o e None q u v sound = tt
place_from claim o e (Some p) None u v sound = tt
place_from claim o e (Some p) (Some q) u v sound =
    let n = p.samples in
    let m = q.samples in
    difference-from n (until n v (since n u (kept_at claim o p))) m (until m v (since m u (points_at e q))) (whole u) sound.0 sound.1
    (until-from n u v (kept_at claim o p)) (until-from m u v (points_at e q))

-- ---- all channels

parts_of : ClaimValue → Sampled → Sampled → ℤ → ℤ → ℤ → Places → Option PointDifference × Option PointDifference
parts_of claim o e t u v p = (window_of claim o e t u p.0 p.1, window_of claim o e u v p.0 p.1)

are_parts : (claim : ClaimValue) (o e : Sampled) (ps : List Places) (t u v : ℤ) → AllSound claim o e ps → AreSides (whole u) (map (parts_of claim o e t u v) ps)
unfolding AllSound parts_of
are_parts claim o e [] t u v sound = tt
are_parts claim o e (p ∷ ps) t u v sound = (place_before claim o e p.0 p.1 t u sound.0, place_from claim o e p.0 p.1 u v sound.0, are_parts claim o e ps t u v sound.1)

windows : (claim : ClaimValue) (o e : Sampled) (ps : List Places) (t u v : ℤ) → AllSound claim o e ps → t ≤ℤ u → u ≤ℤ v → map (λ p. window_of claim o e t v p.0 p.1) ps ≡ map (λ q. option_or q.0 q.1) (map (parts_of claim o e t u v) ps)
unfolding AllSound parts_of
windows claim o e [] t u v sound l r = refl
windows claim o e (p ∷ ps) t u v sound l r = rw (place_parts claim o e p.0 p.1 t u v sound.0 l r, windows claim o e ps t u v sound.1 l r) refl

all_parts : (claim : ClaimValue) (o e : Sampled) (ps : List Places) (t u v : ℤ) → AllSound claim o e ps → t ≤ℤ u → u ≤ℤ v → window_difference claim o e ps t v ≡ option_or (window_difference claim o e ps t u) (window_difference claim o e ps u v)
unfolding window_difference parts_of
all_parts claim o e ps t u v sound l r =
    ap (earliest 0) (windows claim o e ps t u v sound l r)
    ∙ earliest-splits (whole u) 0 (map (parts_of claim o e t u v) ps) (are_parts claim o e ps t u v sound)
    ∙ ap (λ ds. option_or (earliest 0 ds) (earliest 0 (map (λ q. q.1) (map (parts_of claim o e t u v) ps)))) (map-map (λ q. q.0) (parts_of claim o e t u v) ps)
    ∙ ap (λ ds. option_or (earliest 0 (map (λ p. window_of claim o e t u p.0 p.1) ps)) (earliest 0 ds)) (map-map (λ q. q.1) (parts_of claim o e t u v) ps)

pub window_parts : (claim : ClaimValue) (o e : List ℕ) (h g : Head) (a b : ℤ) (ps : List Places) (t u v : ℤ) → Conforms o h → Conforms e g → ArePlaces h g ps → t ≤ℤ u → u ≤ℤ v
    → window_difference claim (sampled o h a) (sampled e g b) ps t v ≡ option_or (window_difference claim (sampled o h a) (sampled e g b) ps t u) (window_difference claim (sampled o h a) (sampled e g b) ps u v)
window_parts claim o e h g a b ps t u v co ce places l r = all_parts claim (sampled o h a) (sampled e g b) ps t u v (all_sound claim o e h g a b ps co ce places) l r

pub rest_parts : (claim : ClaimValue) (o e : List ℕ) (h g : Head) (a b : ℤ) (ps : List Places) (t u : ℤ) → Conforms o h → Conforms e g → ArePlaces h g ps → t ≤ℤ u
    → rest_difference claim (sampled o h a) (sampled e g b) ps t ≡ option_or (window_difference claim (sampled o h a) (sampled e g b) ps t u) (rest_difference claim (sampled o h a) (sampled e g b) ps u)
rest_parts claim o e h g a b ps t u co ce places l = all_splits claim (sampled o h a) (sampled e g b) ps t u (all_sound claim o e h g a b ps co ce places) l

-- ---- between a time and itself

pub nothing_between : (n : ℕ) (t : ℤ) (xs : List Point) → until n t (since n t xs) ≡ []
nothing_between n t xs = until_none n t (since n t xs) (since-from n t xs)

place_none : (claim : ClaimValue) (o e : Sampled) (p q : Option ChannelPlace) (t : ℤ) → window_of claim o e t t p q ≡ None
place_none claim o e None q t = refl
place_none claim o e (Some p) None t = refl
place_none claim o e (Some p) (Some q) t =
    ap (λ xs. first_difference_of p.samples xs q.samples (until q.samples t (since q.samples t (points_at e q)))) (nothing_between p.samples t (kept_at claim o p))
    ∙ ap (λ ys. first_difference_of p.samples [] q.samples ys) (nothing_between q.samples t (points_at e q))

places_none : (claim : ClaimValue) (o e : Sampled) (k : ℕ) (ps : List Places) (t : ℤ) → earliest k (map (λ p. window_of claim o e t t p.0 p.1) ps) ≡ None
places_none claim o e k [] t = refl
places_none claim o e k (p ∷ ps) t = rw (place_none claim o e p.0 p.1 t, places_none claim o e (k + 1) ps t) refl

pub window_none : (claim : ClaimValue) (o e : Sampled) (ps : List Places) (t : ℤ) → window_difference claim o e ps t t ≡ None
unfolding window_difference
window_none claim o e ps t = places_none claim o e 0 ps t
