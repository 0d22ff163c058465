-- The difference of one of several exports is that of the whole files under the claim that keeps only its span.
use Rattle.std.proofs.Common.{◌≡◌, ℕ, ◌+◌, ◌*◌, ◌≤◌, ℤ, pos, ◌*ℤ◌, ◌<ℤ◌, ◌≤ℤ◌, int_le, int_lt, Bool, true, false, not, ◌&&◌, if◌then◌else◌, List, [], ◌∷◌, map, filter, Option, Some, None, IfSome, refl, sym, ap, ◌∙◌, arith}
use Rattle.std.proofs.lemmas.Int.{ints}
use Rattle.std.proofs.Math.Nat.{mul-le-mul_right}
use Rattle.std.specs.List.{list_any}
use borrow.Author.Differences.{up, down}
use Rattle.edf_claim.specs.ClaimValues.{ClaimValue}
use Rattle.edf_claim.specs.Keeps.{keeps_instant}
use Rattle.edf_claim.specs.KeepsReading.{is_within}
use Rattle.edf_claim.specs.declared.kept.interval.Interval.{Interval}
use Rattle.edf_fields.proofs.ForCallers.{has-filtered, not-true}
use Rattle.edf_header.specs.Heads.{Head}
use Rattle.edf_stream.specs.Conforming.{Conforms}
use Rattle.edf_pace.specs.declared.walk.channel_place.ChannelPlace.{ChannelPlace}
use Rattle.edf_samples.specs.declared.point.Point.{Point}
use Rattle.edf_pace.proofs.walk.ChannelFacts.{difference_at}
use Rattle.edf_samples.specs.Stretches.{whole, since, until}
use Rattle.edf_samples.specs.Differences.{instant, first_difference_of, earliest}
use Rattle.edf_samples.proofs.ForCallers.{AreBefore, since_all, by_test, filter_all, filter_implied, is_before-true, is_before-false, true-is_before, false-is_before}
use Rattle.edf_samples.specs.InstantOrder.{is_before}
use Rattle.edf_pace.specs.walk.Pairs.{Places, IsPlaceIn}
use Rattle.edf_pace.specs.walk.Shown.{begin_by, last_end_by}
use Rattle.edf_pace.specs.walk.Windows.{sampled, points_at, kept_at, rest_of, window_of, rest_difference, window_difference, span_difference}
use Rattle.edf_pace.proofs.walk.OnwardFacts.{past_all, other_way}
use Rattle.edf_pace.proofs.walk.RecordFacts.{points-are-kept, from-first, before-past-all}
use Rattle.edf_pace.proofs.walk.SplitFacts.{ArePlaces}
use Rattle.edf_samples.specs.declared.earliest.Found.{Found}
use Rattle.edf_pace.specs.walk.Columns.{Sampled}

-- of each interval what stands from t on
abbrev cut_from : ℤ → List Interval → List Interval
cut_from t keep = map (λ interval. record { from_ps = if int_le t interval.from_ps then interval.from_ps else t; to_ps = interval.to_ps }) keep

-- of each interval what stands before u
abbrev cut_until : ℤ → List Interval → List Interval
cut_until u keep = map (λ interval. record { from_ps = interval.from_ps; to_ps = if int_le interval.to_ps u then interval.to_ps else u }) keep

-- what stands from t on, and, where further exports follow, before u
abbrev pub span : Bool → ℤ → ℤ → List Interval → List Interval
span true t u keep = cut_from t keep
span false t u keep = cut_until u (cut_from t keep)

-- the claim that keeps only this
abbrev pub claim_within : Bool → ℤ → ℤ → ClaimValue → ClaimValue
claim_within is_last t u claim = record { channels = claim.channels; keep = span is_last t u claim.keep; anonymous = claim.anonymous; shift = claim.shift; remove = claim.remove; remove_prefix = claim.remove_prefix; blank = claim.blank }

-- the earliest difference of these channels, of all samples
unfoldable pub whole_difference : ClaimValue → Sampled → Sampled → List Places → Option Found
whole_difference claim o e places = earliest 0 (map (λ p. difference_at claim o e p.0 p.1) places)

-- ---- intervals that are cut

scaled : (n : ℕ) (a t : ℤ) → a ≤ℤ t → (a *ℤ pos n) ≤ℤ (t *ℤ pos n)
scaled n a t l =
    let p : up a + down t ≤ up t + down a = omega (arith, ints) in
    let q : (up a + down t) * n ≤ (up t + down a) * n = mul-le-mul_right n p in
    omega (arith, ints)

le-true : (a b : ℤ) → a ≤ℤ b → int_le a b ≡ true
le-true a b l = by_test (int_le a b) (λ x. x ≡ true) (λ e. refl) (λ e. absurd (omega (arith, ints, e, l)))

le-false : (a b : ℤ) → b <ℤ a → int_le a b ≡ false
le-false a b l = by_test (int_le a b) (λ x. x ≡ false) (λ e. absurd (omega (arith, ints, e, l))) (λ e. refl)

lt-true : (a b : ℤ) → a <ℤ b → int_lt a b ≡ true
lt-true a b l = by_test (int_lt a b) (λ x. x ≡ true) (λ e. refl) (λ e. absurd (omega (arith, ints, e, l)))

lt-false : (a b : ℤ) → b ≤ℤ a → int_lt a b ≡ false
lt-false a b l = by_test (int_lt a b) (λ x. x ≡ false) (λ e. absurd (omega (arith, ints, e, l))) (λ e. refl)

later-begin : (n : ℕ) (num a t : ℤ) → (t *ℤ pos n) ≤ℤ num → int_le ((if int_le t a then a else t) *ℤ pos n) num ≡ int_le (a *ℤ pos n) num
later-begin n num a t h =
    by_test (int_le t a) (λ b. int_le ((if b then a else t) *ℤ pos n) num ≡ int_le (a *ℤ pos n) num)
    (λ e. refl)
    (λ e. let s = scaled n a t (omega (arith, ints, e)) in le-true (t *ℤ pos n) num h ∙ sym (le-true (a *ℤ pos n) num (omega (arith, ints, s, h))))

no-begin : (n : ℕ) (num a t : ℤ) → num <ℤ (t *ℤ pos n) → int_le ((if int_le t a then a else t) *ℤ pos n) num ≡ false
no-begin n num a t h =
    by_test (int_le t a) (λ b. int_le ((if b then a else t) *ℤ pos n) num ≡ false)
    (λ e. let s = scaled n t a (omega (arith, ints, e)) in le-false (a *ℤ pos n) num (omega (arith, ints, s, h)))
    (λ e. le-false (t *ℤ pos n) num h)

earlier-end : (n : ℕ) (num a u : ℤ) → num <ℤ (u *ℤ pos n) → int_lt num ((if int_le a u then a else u) *ℤ pos n) ≡ int_lt num (a *ℤ pos n)
earlier-end n num a u h =
    by_test (int_le a u) (λ b. int_lt num ((if b then a else u) *ℤ pos n) ≡ int_lt num (a *ℤ pos n))
    (λ e. refl)
    (λ e. let s = scaled n u a (omega (arith, ints, e)) in lt-true num (u *ℤ pos n) h ∙ sym (lt-true num (a *ℤ pos n) (omega (arith, ints, s, h))))

no-end : (n : ℕ) (num a u : ℤ) → (u *ℤ pos n) ≤ℤ num → int_lt num ((if int_le a u then a else u) *ℤ pos n) ≡ false
no-end n num a u h =
    by_test (int_le a u) (λ b. int_lt num ((if b then a else u) *ℤ pos n) ≡ false)
    (λ e. let s = scaled n a u (omega (arith, ints, e)) in lt-false num (a *ℤ pos n) (omega (arith, ints, s, h)))
    (λ e. lt-false num (u *ℤ pos n) h)

pub and_false : (b : Bool) → (b && false) ≡ false
and_false true = refl
and_false false = refl

-- the instant num / n is in one of the intervals
abbrev any_within : List Interval → ℤ → ℕ → Bool
any_within keep num n = list_any (λ interval. is_within interval num n) keep

from-keeps : (keep : List Interval) (t num : ℤ) (n : ℕ) → (t *ℤ pos n) ≤ℤ num → any_within (cut_from t keep) num n ≡ any_within keep num n
from-keeps [] t num n h = refl
from-keeps (i ∷ is) t num n h = rw (later-begin n num i.from_ps t h, from-keeps is t num n h) refl

from-none : (keep : List Interval) (t num : ℤ) (n : ℕ) → num <ℤ (t *ℤ pos n) → any_within (cut_from t keep) num n ≡ false
from-none [] t num n h = refl
from-none (i ∷ is) t num n h = rw (no-begin n num i.from_ps t h, from-none is t num n h) refl

until-keeps : (keep : List Interval) (u num : ℤ) (n : ℕ) → num <ℤ (u *ℤ pos n) → any_within (cut_until u keep) num n ≡ any_within keep num n
until-keeps [] u num n h = refl
until-keeps (i ∷ is) u num n h = rw (earlier-end n num i.to_ps u h, until-keeps is u num n h) refl

until-none : (keep : List Interval) (u num : ℤ) (n : ℕ) → (u *ℤ pos n) ≤ℤ num → any_within (cut_until u keep) num n ≡ false
until-none [] u num n h = refl
until-none (i ∷ is) u num n h = rw (no-end n num i.to_ps u h, and_false (int_le (i.from_ps *ℤ pos n) num), until-none is u num n h) refl

-- ---- the claim within a span

-- within its span it keeps what it kept
pub within-keeps : (is_last : Bool) (claim : ClaimValue) (t u num : ℤ) (n : ℕ) → (t *ℤ pos n) ≤ℤ num → (is_last ≡ false → num <ℤ (u *ℤ pos n)) → keeps_instant (claim_within is_last t u claim) num n ≡ keeps_instant claim num n
within-keeps true claim t u num n h k = from-keeps claim.keep t num n h
within-keeps false claim t u num n h k = until-keeps (cut_from t claim.keep) u num n (k refl) ∙ from-keeps claim.keep t num n h

none-before : (is_last : Bool) (claim : ClaimValue) (t u num : ℤ) (n : ℕ) → num <ℤ (t *ℤ pos n) → keeps_instant (claim_within is_last t u claim) num n ≡ false
none-before true claim t u num n h = from-none claim.keep t num n h
none-before false claim t u num n h =
    by_test (int_lt num (u *ℤ pos n)) (λ b. keeps_instant (claim_within false t u claim) num n ≡ false)
    (λ e. until-keeps (cut_from t claim.keep) u num n (omega (arith, ints, e)) ∙ from-none claim.keep t num n h)
    (λ e. until-none (cut_from t claim.keep) u num n (omega (arith, ints, e)))

-- before and behind it nothing
pub within-from : (is_last : Bool) (claim : ClaimValue) (t u num : ℤ) (n : ℕ) → keeps_instant (claim_within is_last t u claim) num n ≡ true → (t *ℤ pos n) ≤ℤ num
within-from is_last claim t u num n h =
    by_test (int_lt num (t *ℤ pos n)) (λ b. (t *ℤ pos n) ≤ℤ num)
    (λ e. absurd (other_way (keeps_instant (claim_within is_last t u claim) num n) h (none-before is_last claim t u num n (omega (arith, ints, e)))))
    (λ e. omega (arith, ints, e))

pub within-until : (claim : ClaimValue) (t u num : ℤ) (n : ℕ) → keeps_instant (claim_within false t u claim) num n ≡ true → num <ℤ (u *ℤ pos n)
within-until claim t u num n h =
    by_test (int_lt num (u *ℤ pos n)) (λ b. num <ℤ (u *ℤ pos n))
    (λ e. omega (arith, ints, e))
    (λ e. absurd (other_way (keeps_instant (claim_within false t u claim) num n) h (until-none (cut_from t claim.keep) u num n (omega (arith, ints, e)))))

-- ---- the samples that are kept within a span

abbrev keeps_point : ClaimValue → ℕ → Point → Bool
keeps_point claim n x = keeps_instant claim x.num n

abbrev not_before : ℕ → ℤ → Point → Bool
not_before n t x = not (is_before (instant n x) (whole t))

passes-from : (n : ℕ) (t : ℤ) (x : Point) → (t *ℤ pos n) ≤ℤ x.num → not_before n t x ≡ true
passes-from n t x h = ap not (false-is_before (instant n x) (whole t) (omega (arith, ints, h)))

from-passes : (n : ℕ) (t : ℤ) (x : Point) → not_before n t x ≡ true → (t *ℤ pos n) ≤ℤ x.num
from-passes n t x h = let b = is_before-false (instant n x) (whole t) (not-true (is_before (instant n x) (whole t)) h) in omega (arith, ints, b)

pub rest-kept : (claim : ClaimValue) (n : ℕ) (t u : ℤ) (xs : List Point) → since n t (filter (keeps_point claim n) xs) ≡ filter (keeps_point (claim_within true t u claim) n) xs
rest-kept claim n t u xs =
    let K = keeps_point claim n in
    let L = keeps_point (claim_within true t u claim) n in
    let A = not_before n t in
    let none : (x : Point) → true ≡ false → x.num <ℤ (u *ℤ pos n) = λ x z. absurd (let f : true ≡ false = z in cc) in
    sym (filter_all L (filter A (filter K xs)) (λ x i.
    let f = has-filtered A (filter K xs) x i in
    within-keeps true claim t u x.num n (from-passes n t x f.1) (none x) ∙ (has-filtered K xs x f.0).1))
    ∙ filter_implied L A (filter K xs) (λ x h. passes-from n t x (within-from true claim t u x.num n h))
    ∙ filter_implied L K xs (λ x h. sym (within-keeps true claim t u x.num n (within-from true claim t u x.num n h) (none x)) ∙ h)

pub window-kept : (claim : ClaimValue) (n : ℕ) (t u : ℤ) (xs : List Point) → until n u (since n t (filter (keeps_point claim n) xs)) ≡ filter (keeps_point (claim_within false t u claim) n) xs
window-kept claim n t u xs =
    let K = keeps_point claim n in
    let L = keeps_point (claim_within false t u claim) n in
    let A = not_before n t in
    let B : Point → Bool = λ x. is_before (instant n x) (whole u) in
    let early : (x : Point) → B x ≡ true → x.num <ℤ (u *ℤ pos n) = λ x h. (let b = is_before-true (instant n x) (whole u) h in omega (arith, ints, b)) in
    sym (filter_all L (filter B (filter A (filter K xs))) (λ x i.
    let g = has-filtered B (filter A (filter K xs)) x i in
    let f = has-filtered A (filter K xs) x g.0 in
    within-keeps false claim t u x.num n (from-passes n t x f.1) (λ z. early x g.1) ∙ (has-filtered K xs x f.0).1))
    ∙ filter_implied L B (filter A (filter K xs)) (λ x h. true-is_before (instant n x) (whole u) (let l = within-until claim t u x.num n h in omega (arith, ints, l)))
    ∙ filter_implied L A (filter K xs) (λ x h. passes-from n t x (within-from false claim t u x.num n h))
    ∙ filter_implied L K xs (λ x h. sym (within-keeps false claim t u x.num n (within-from false claim t u x.num n h) (λ z. within-until claim t u x.num n h)) ∙ h)

pub until-all : (n : ℕ) (t : ℤ) (xs : List Point) → AreBefore n xs (whole t) → until n t xs ≡ xs
until-all n t xs h = filter_all (λ x. is_before (instant n x) (whole t)) xs (λ x i. true-is_before (instant n x) (whole t) (h x i))

-- ---- one channel

place-within : (is_last : Bool) (claim : ClaimValue) (o e : List ℕ) (h g : Head) (a b t u : ℤ) (p q : Option ChannelPlace) → Conforms o h → Conforms e g → IfSome p (IsPlaceIn h) → IfSome q (IsPlaceIn g)
    → t ≤ℤ begin_by e g b 0 → u ≡ last_end_by e g b
    → (if is_last then rest_of claim (sampled o h a) (sampled e g b) t p q else window_of claim (sampled o h a) (sampled e g b) t u p q) ≡ difference_at (claim_within is_last t u claim) (sampled o h a) (sampled e g b) p q
place-within true claim o e h g a b t u None q co ce ip iq from end = refl
place-within false claim o e h g a b t u None q co ce ip iq from end = refl
place-within true claim o e h g a b t u (Some p) None co ce ip iq from end = refl
place-within false claim o e h g a b t u (Some p) None co ce ip iq from end = refl
place-within true claim o e h g a b t u (Some p) (Some q) co ce ip iq from end =
    let n = p.samples in
    let m = q.samples in
    let xs = points_at (sampled o h a) p in
    let ys = points_at (sampled e g b) q in
    ap (λ zs. first_difference_of n (since n t zs) m (since m t ys)) (points-are-kept claim o h p a co ip)
    ∙ ap (λ zs. first_difference_of n zs m (since m t ys)) (rest-kept claim n t u xs)
    ∙ ap (λ zs. first_difference_of n zs m (since m t ys)) (sym (points-are-kept (claim_within true t u claim) o h p a co ip))
    ∙ ap (λ zs. first_difference_of n (kept_at (claim_within true t u claim) (sampled o h a) p) m zs) (since_all m t ys (from-first e g q b t ce iq from))
place-within false claim o e h g a b t u (Some p) (Some q) co ce ip iq from end =
    let n = p.samples in
    let m = q.samples in
    let xs = points_at (sampled o h a) p in
    let ys = points_at (sampled e g b) q in
    let before : AreBefore m ys (whole u) = before-past-all e g q b u ce iq (past_all e g b u ce end) in
    ap (λ zs. first_difference_of n (until n u (since n t zs)) m (until m u (since m t ys))) (points-are-kept claim o h p a co ip)
    ∙ ap (λ zs. first_difference_of n zs m (until m u (since m t ys))) (window-kept claim n t u xs)
    ∙ ap (λ zs. first_difference_of n zs m (until m u (since m t ys))) (sym (points-are-kept (claim_within false t u claim) o h p a co ip))
    ∙ ap (λ zs. first_difference_of n (kept_at (claim_within false t u claim) (sampled o h a) p) m (until m u zs)) (since_all m t ys (from-first e g q b t ce iq from))
    ∙ ap (λ zs. first_difference_of n (kept_at (claim_within false t u claim) (sampled o h a) p) m zs) (until-all m u ys before)

-- ---- all channels

rests-within : (claim : ClaimValue) (o e : List ℕ) (h g : Head) (a b t u : ℤ) (ps : List Places) → Conforms o h → Conforms e g → ArePlaces h g ps → t ≤ℤ begin_by e g b 0 → u ≡ last_end_by e g b
    → map (λ p. rest_of claim (sampled o h a) (sampled e g b) t p.0 p.1) ps ≡ map (λ p. difference_at (claim_within true t u claim) (sampled o h a) (sampled e g b) p.0 p.1) ps
unfolding ArePlaces
rests-within claim o e h g a b t u [] co ce all from end = refl
rests-within claim o e h g a b t u (p ∷ ps) co ce all from end = rw (place-within true claim o e h g a b t u p.0 p.1 co ce all.0 all.1 from end, rests-within claim o e h g a b t u ps co ce all.2 from end) refl

windows-within : (claim : ClaimValue) (o e : List ℕ) (h g : Head) (a b t u : ℤ) (ps : List Places) → Conforms o h → Conforms e g → ArePlaces h g ps → t ≤ℤ begin_by e g b 0 → u ≡ last_end_by e g b
    → map (λ p. window_of claim (sampled o h a) (sampled e g b) t u p.0 p.1) ps ≡ map (λ p. difference_at (claim_within false t u claim) (sampled o h a) (sampled e g b) p.0 p.1) ps
unfolding ArePlaces
windows-within claim o e h g a b t u [] co ce all from end = refl
windows-within claim o e h g a b t u (p ∷ ps) co ce all from end = rw (place-within false claim o e h g a b t u p.0 p.1 co ce all.0 all.1 from end, windows-within claim o e h g a b t u ps co ce all.2 from end) refl

pub span_is_whole : (is_last : Bool) (claim : ClaimValue) (o e : List ℕ) (h g : Head) (a b t u : ℤ) (ps : List Places) → Conforms o h → Conforms e g → ArePlaces h g ps → t ≤ℤ begin_by e g b 0 → u ≡ last_end_by e g b
    → span_difference is_last claim (sampled o h a) (sampled e g b) ps t u ≡ whole_difference (claim_within is_last t u claim) (sampled o h a) (sampled e g b) ps
unfolding whole_difference rest_difference window_difference
span_is_whole true claim o e h g a b t u ps co ce places from end = ap (earliest 0) (rests-within claim o e h g a b t u ps co ce places from end)
span_is_whole false claim o e h g a b t u ps co ce places from end = ap (earliest 0) (windows-within claim o e h g a b t u ps co ce places from end)
