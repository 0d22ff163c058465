-- That the samples agree, in the words of samples.
use Rattle.std.proofs.Common.{◌≡◌, ℕ, ℤ, pos, ◌+ℤ◌, ◌*ℤ◌, neg_ℤ, List, refl, sym, ap, ◌∙◌, subst, arith}
use Rattle.std.proofs.lemmas.Int.{ints}
use Rattle.edf_claim.specs.ClaimValues.{ClaimValue}
use Rattle.edf_fields.specs.Lists.{Has}
use Rattle.edf_header.specs.HeadsReading.{head_of}
use Rattle.edf_stream.specs.declared.times.instant.Instant.{Instant}
use Rattle.edf_stream.specs.times.Instants.{IsSame}
use Rattle.edf_samples.specs.Instants.{later}
use Rattle.edf_check.specs.Exports.{SameSamples}
use Rattle.edf_pace.specs.Kept.{shift_ps, SamplesAsKept}
use Rattle.edf_check.specs.KeptReading.{origin_of}
use Rattle.edf_check.specs.Laws.{SamplesInWords}
use Rattle.edf_samples.proofs.ForCallers.{same_through, same_back}
use Rattle.edf_check.proofs.KeptFacts.{positive, later-same, keeps-same}
use Rattle.edf_samples.proofs.ForCallers.{scaled}

at-num : ℕ → ℤ → Instant
at-num n k = record { num = k; den = n }

later-later : (x y z : ℤ) (t : Instant) → z ≡ x +ℤ y → later y (later x t) ≡ later z t
unfolding at-num
later-later x y z t e =
    let s : pos t.den *ℤ z ≡ (pos t.den *ℤ x) +ℤ (pos t.den *ℤ y) = scaled t.den x y z e in
    let n : (t.num +ℤ (pos t.den *ℤ x)) +ℤ (pos t.den *ℤ y) ≡ t.num +ℤ (pos t.den *ℤ z) = omega (arith, ints, s) in
    ap (at-num t.den) n

nothing : (n : ℕ) → pos n *ℤ pos 0 ≡ pos 0
nothing n = omega (arith, ints)

later-undone : (x y : ℤ) (t : Instant) → pos 0 ≡ x +ℤ y → later y (later x t) ≡ t
unfolding at-num
later-undone x y t e =
    let s = scaled t.den x y (pos 0) e in
    let z = nothing t.den in
    let n : (t.num +ℤ (pos t.den *ℤ x)) +ℤ (pos t.den *ℤ y) ≡ t.num = omega (arith, ints, s, z) in
    ap (at-num t.den) n

pub later-back : (s : ℤ) (t : Instant) → later s (later (neg_ℤ s) t) ≡ t
later-back s t = later-undone (neg_ℤ s) s t (omega (arith, ints))

later-forth : (s : ℤ) (t : Instant) → later (neg_ℤ s) (later s t) ≡ t
later-forth s t = later-undone s (neg_ℤ s) t (omega (arith, ints))

-- x is at t, counted from s
pub since-same : (s : ℤ) (x t : Instant) → IsSame x (later s t) → IsSame (later (neg_ℤ s) x) t
since-same s x t g = subst (IsSame (later (neg_ℤ s) x)) (later-forth s t) (later-same (neg_ℤ s) x (later s t) g)

-- and later by h
shifted-same : (s h : ℤ) (x t : Instant) → IsSame x (later s t) → IsSame (later h x) (later (s +ℤ h) t)
shifted-same s h x t g = subst (IsSame (later h x)) (later-later s h (s +ℤ h) t refl) (later-same h x (later s t) g)

unshifted-same : (s h : ℤ) (x t : Instant) → IsSame (later h x) (later (s +ℤ h) t) → IsSame x (later s t)
unshifted-same s h x t g =
    let k : IsSame (later (neg_ℤ h) (later h x)) (later (neg_ℤ h) (later (s +ℤ h) t)) = later-same (neg_ℤ h) (later h x) (later (s +ℤ h) t) g in
    let e : later (neg_ℤ h) (later (s +ℤ h) t) ≡ later s t = later-later (s +ℤ h) (neg_ℤ h) s t (omega (arith, ints)) in
    subst (λ z. IsSame z (later s t)) (later-forth h x) (subst (IsSame (later (neg_ℤ h) (later h x))) e k)

to-words : (o e : List ℕ) (c : ClaimValue) → SameSamples o e c → SamplesAsKept o e (head_of o) (head_of e) c
to-words o e c a = record {
  all_kept = λ x k.
      let s = origin_of o in
      let t : Instant = later (neg_ℤ s) x.instant in
      let here = subst (IsSame x.instant) (sym (later-back s x.instant)) refl in
      let r = (a x.label t x.value (positive o x k.sample)).0 (k.channel, k.instant, (x, k.sample, refl, here, refl)) in
      let y = r.0 in
      let g = subst (IsSame y.instant) (later-later (neg_ℤ s) (s +ℤ shift_ps c) (shift_ps c) x.instant (omega (arith, ints))) r.3 in
      (y, r.1, record { label = r.2; value = r.4; instant = sym g });
  none_else = λ y h.
      let s = origin_of o in
      let d = s +ℤ shift_ps c in
      let t : Instant = later (neg_ℤ d) y.instant in
      let py = positive e y h in
      let here = subst (IsSame y.instant) (sym (later-back d y.instant)) refl in
      let r = (a y.label t y.value py).1 (y, h, refl, here, refl) in
      let found = r.2 in
      let x = found.0 in
      let px = positive o x found.1 in
      let w : IsSame (later (neg_ℤ s) x.instant) t = since-same s x.instant t found.3 in
      let z : IsSame (later (shift_ps c) x.instant) (later d t) = shifted-same s (shift_ps c) x.instant t found.3 in
      let channel = subst (Has c.channels) (sym found.2) r.0 in
      let instant = keeps-same c t (later (neg_ℤ s) x.instant) py px (same_back (later (neg_ℤ s) x.instant) t w) r.1 in
      (x, record { sample = found.1; channel = channel; instant = instant }, record { label = sym found.2; value = sym found.4; instant = subst (IsSame (later (shift_ps c) x.instant)) (later-back d y.instant) z });
}

of-words : (o e : List ℕ) (c : ClaimValue) → SamplesAsKept o e (head_of o) (head_of e) c → SameSamples o e c
of-words o e c a l t v p = (
  λ k.
      let s = origin_of o in
      let d = s +ℤ shift_ps c in
      let found = k.2 in
      let x = found.0 in
      let px = positive o x found.1 in
      let w : IsSame (later (neg_ℤ s) x.instant) t = since-same s x.instant t found.3 in
      let instant = keeps-same c t (later (neg_ℤ s) x.instant) p px (same_back (later (neg_ℤ s) x.instant) t w) k.1 in
      let r = a.all_kept x (record { sample = found.1; channel = subst (Has c.channels) (sym found.2) k.0; instant = instant }) in
      let y = r.0 in
      (y, r.1, (r.2).label ∙ found.2, same_through y.instant (later (shift_ps c) x.instant) (later d t) (positive e y r.1) px p (sym (r.2).instant) (shifted-same s (shift_ps c) x.instant t found.3), (r.2).value ∙ found.4),
  λ found.
      let s = origin_of o in
      let d = s +ℤ shift_ps c in
      let y = found.0 in
      let r = a.none_else y found.1 in
      let x = r.0 in
      let k = r.1 in
      let px = positive o x k.sample in
      let z : IsSame x.instant (later s t) = unshifted-same s (shift_ps c) x.instant t (same_through (later (shift_ps c) x.instant) y.instant (later d t) px (positive e y found.1) p (r.2).instant found.3) in
      let label = sym (r.2).label ∙ found.2 in
      (subst (Has c.channels) label k.channel, keeps-same c (later (neg_ℤ s) x.instant) t px p (since-same s x.instant t z) k.instant, (x, k.sample, label, z, sym (r.2).value ∙ found.4)),
)

pub samples_in_words : SamplesInWords
samples_in_words o e c = (to-words o e c, of-words o e c)
