-- The samples of a channel rise, and the difference of two channels.
use Rattle.std.proofs.Common.{◌≡◌, ℕ, ◌<ℤ◌, ◌+ℤ◌, ◌*ℤ◌, ℤ, pos, Bool, true, false, cond, List, [], ◌∷◌, map, filter, Option, Some, None, inl, inr, refl, sym, ap, ◌∙◌, subst, arith}
use Rattle.std.proofs.lemmas.Int.{ints}
use Rattle.edf_claim.specs.ClaimValues.{ClaimValue}
use Rattle.edf_fields.specs.Lists.{Has}
use Rattle.edf_fields.proofs.ForCallers.{map-has, has-filtered}
use Rattle.edf_stream.specs.declared.samples.sample.Sample.{Sample}
use Rattle.edf_stream.specs.samples.SamplesReading.{AreRising}
use Rattle.edf_pace.specs.declared.walk.channel_place.ChannelPlace.{ChannelPlace}
use Rattle.edf_samples.specs.declared.point.Point.{Point}
use Rattle.edf_pace.specs.walk.Columns.{Sampled, point_of, is_of, is_kept, points_of}
use Rattle.edf_samples.specs.Differences.{first_difference_of}
use Rattle.edf_samples.specs.declared.difference.PointDifference.{PointDifference}
use Rattle.edf_samples.proofs.ForCallers.{IsAscending}

-- the first difference of two channels; none where one of them isn't there
abbrev pub difference_at : ClaimValue → Sampled → Sampled → Option ChannelPlace → Option ChannelPlace → Option PointDifference
difference_at claim o e None t = None
difference_at claim o e (Some s) None = None
difference_at claim o e (Some s) (Some t) =
    first_difference_of s.samples (points_of (is_kept claim s.number o.moved) o.moved o.samples) t.samples (points_of (is_of t.number) e.moved e.samples)

filter-case : (b : Bool) (xs ys : List Sample) (P : List Sample → Type 0) → (b ≡ true → P xs) → (b ≡ false → P ys) → P (cond b xs ys)
filter-case true xs ys P f g = f refl
filter-case false xs ys P f g = g refl

moved-below : (a b ps : ℤ) (n m : ℕ) → n ≡ m → a <ℤ b → (a +ℤ (pos n *ℤ ps)) <ℤ (b +ℤ (pos m *ℤ ps))
moved-below a b ps n m e lt = let p : pos n *ℤ ps ≡ pos m *ℤ ps = ap (λ k. pos k *ℤ ps) e in omega (arith, ints, p, lt)

pub ascending : (test : Sample → Bool) (ps : ℤ) (c n : ℕ) (xs : List Sample) → AreRising xs → ((x : Sample) → Has xs x → test x ≡ true → (x.channel ≡ c) × ((x.instant).den ≡ n)) → IsAscending (points_of test ps xs)
ascending test ps c n [] up of = tt
ascending test ps c n (x ∷ xs) up of =
    let rest = ascending test ps c n xs up.1 (λ y h. of y (inr h)) in
    filter-case (test x) (x ∷ filter test xs) (filter test xs) (λ ys. IsAscending (map (point_of ps) ys))
    (λ t. (
      λ p h.
          let m = map-has (point_of ps) (filter test xs) p h in
          let f = has-filtered test xs m.0 m.1 in
          let here = of x (inl refl) t in
          let there = of m.0 (inr f.0) f.1 in
          let lt = up.0 m.0 f.0 (there.0 ∙ sym here.0) in
          let P : Point → Type 0 = λ q. ((point_of ps x).num) <ℤ q.num in
          subst P m.2 (moved-below (x.instant).num ((m.0).instant).num ps (x.instant).den ((m.0).instant).den (here.1 ∙ sym there.1) lt),
      rest,
    ))
    (λ t. rest)
