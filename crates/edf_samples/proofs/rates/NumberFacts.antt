-- Places of the first values of strides, and which of these values differ.
use Rattle.std.proofs.Common.{◌≡◌, ℕ, ◌+◌, ◌*◌, ◌/◌, ◌<◌, ◌≤◌, not, List, Option, Some, None, IfSome, sym, ap, ◌∙◌, arith}
use Rattle.std.specs.Ordering.{int_eq}
use Rattle.std.proofs.Math.Nat.{mul-div-le, mul-le-mul_left}
use Rattle.edf_stream.specs.samples.Values.{digital_value}
use Rattle.edf_samples.specs.declared.counts.places.Places.{Places}
use Rattle.edf_samples.specs.Others.{AreOthers, values_differ, values_differ_at}
use Rattle.edf_samples.proofs.FrontFacts.{same_back_value}
use Rattle.edf_samples.proofs.ValueFacts.{others_same}

pub strides_within : (a p c : ℕ) → c ≤ a / p → p * c ≤ a
strides_within a p c le =
    let f = mul-le-mul_left p le in
    let g = mul-div-le a p in
    omega (arith, f, g)

pub place_within : (p number count size : ℕ) → 0 < p → number < count → 2 * (p * count) ≤ size → 2 * (p * number) + 1 < size
place_within p number count size some less within =
    let next : number + 1 ≤ count = omega (arith, less) in
    let f = mul-le-mul_left p next in
    omega (arith, f, within, some)

-- of places that may be there
pub some_within : (o : Option Places) (of : Places → ℕ) (p count size : ℕ) → 0 < p → 2 * (p * count) ≤ size → IfSome o (λ places. of places < count) → IfSome o (λ places. 2 * (p * of places) + 1 < size)
some_within None of p count size some within less = tt
some_within (Some places) of p count size some within less = place_within p (of places) count size some less within

pub others_at_half : (p q : ℕ) (xs ys : List ℕ) (n : ℕ) (places : Option Places) → p ≡ 2 → q ≡ 1 → AreOthers (values_differ 2 xs ys) n places → AreOthers (values_differ_at p q xs ys) n places
others_at_half p q xs ys n places ep eq h = others_same (values_differ 2 xs ys) (values_differ_at p q xs ys) same n places h
  where
    same : (k : ℕ) → values_differ 2 xs ys k ≡ values_differ_at p q xs ys k
    same k =
        let here : 2 * k ≡ p * k = ap (λ z. z * k) (sym ep) in
        let one : k ≡ 1 * k = omega arith in
        let there : k ≡ q * k = one ∙ ap (λ z. z * k) (sym eq) in
        ap (λ z. not (int_eq (digital_value xs z) (digital_value ys k))) here ∙ ap (λ z. not (int_eq (digital_value xs (p * k)) (digital_value ys z))) there

pub others_at_double : (p q : ℕ) (xs ys : List ℕ) (n : ℕ) (places : Option Places) → p ≡ 1 → q ≡ 2 → AreOthers (values_differ 2 ys xs) n places → AreOthers (values_differ_at p q xs ys) n places
others_at_double p q xs ys n places ep eq h = others_same (values_differ 2 ys xs) (values_differ_at p q xs ys) same n places h
  where
    same : (k : ℕ) → values_differ 2 ys xs k ≡ values_differ_at p q xs ys k
    same k =
        let there : 2 * k ≡ q * k = ap (λ z. z * k) (sym eq) in
        let one : k ≡ 1 * k = omega arith in
        let here : k ≡ p * k = one ∙ ap (λ z. z * k) (sym ep) in
        ap not (same_back_value (digital_value ys (2 * k)) (digital_value xs k))
        ∙ ap (λ z. not (int_eq (digital_value xs z) (digital_value ys (2 * k)))) here ∙ ap (λ z. not (int_eq (digital_value xs (p * k)) (digital_value ys z))) there
