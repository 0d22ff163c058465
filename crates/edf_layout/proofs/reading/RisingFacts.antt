-- The starts of data records that were read one behind the other.
use Rattle.std.proofs.Common.{◌≡◌, inl, inr, ℕ, ℤ, refl, lit<, unsigned_abs, Result, Ok, Err, ◌^◌, ◌<◌, ◌+ℤ◌, ◌<ℤ◌, ◌≤ℤ◌, List, [], ◌∷◌, ◌++◌, length, get_or, sym, subst, arith, length-append}
use Rattle.std.proofs.Math.Seq.{get_or-append_seam}
use Rattle.std.proofs.lemmas.Bool.{cases_lt}
use Rattle.std.proofs.lemmas.Int.{ints}
use Rattle.std.proofs.lemmas.List.{get_or_append_left}
use Rattle.edf_header.specs.Heads.{Head}
use Rattle.edf_tal.specs.Reading.{items_of}
use Rattle.edf_tal.specs.Views.{start_of}
use Rattle.edf_tal.specs.declared.start.StartCause.{StartCause}
use Rattle.edf_tal.proofs.ForCallers.{starts-at, start_small}
use Rattle.edf_stream.specs.records.Records.{annotation_lanes}
use Rattle.edf_stream.specs.times.StartsReading.{said_start, start_by_lanes, or_zero, start_in}
use Rattle.edf_layout.specs.body.PlainLanes.{AreRising}
use Rattle.edf_layout.specs.whole.FileBodies.{AreNear}

-- no data record of this duration with one of these starts ends behind this
abbrev pub EndBy : List ℤ → ℤ → ℤ → Type 0
EndBy starts duration ended = (k : ℕ) (d : ℤ) → k < length starts → (get_or starts k d +ℤ duration) ≤ℤ ended

pub none-rise : AreRising []
none-rise i j d le low = absurd (omega (arith, low))

pub none-end : (duration ended : ℤ) → EndBy [] duration ended
none-end duration ended k d low = absurd (omega (arith, low))

-- a start in a list with one more at its end
one-in : (starts : List ℤ) (start : ℤ) (k : ℕ) (d : ℤ) → k < length (starts ++ start ∷ []) → (P : ℤ → Type 0) → (k < length starts → P (get_or starts k d)) → (length starts ≡ k → P start) → P (get_or (starts ++ start ∷ []) k d)
one-in starts start k d low P front last =
    let count = length-append starts (start ∷ []) in
    elim (cases_lt k (length starts)) [
      | inl less ↦ subst P (sym (get_or_append_left starts (start ∷ []) d k less)) (front less)
      | inr le ↦
          let e : length starts ≡ k = omega (arith, low, le, count) in
          subst (λ m. P (get_or (starts ++ start ∷ []) m d)) e (subst P (sym (get_or-append_seam starts start [] d)) (last e))
    ]

-- one start more, of a data record that ends behind those before it
pub rising-more : (starts : List ℤ) (start duration old new : ℤ) → AreRising starts → EndBy starts duration old → old <ℤ new → new ≡ start +ℤ duration → AreRising (starts ++ start ∷ [])
rising-more starts start duration old new up by later is i j d le low =
    let count = length-append starts (start ∷ []) in
    one-in starts start j d low (λ z. get_or (starts ++ start ∷ []) i d ≤ℤ z)
    (λ less. one-in starts start i d (omega (arith, le, low)) (λ z. z ≤ℤ get_or starts j d) (λ front. up i j d le less) (λ e. absurd (omega (arith, less, le, e))))
    (λ last. one-in starts start i d (omega (arith, le, low)) (λ z. z ≤ℤ start) (λ front. let b = by i d front in omega (arith, ints, b, later, is)) (λ e. omega (arith, ints)))

pub ends-more : (starts : List ℤ) (start duration old new : ℤ) → EndBy starts duration old → old <ℤ new → new ≡ start +ℤ duration → EndBy (starts ++ start ∷ []) duration new
ends-more starts start duration old new by later is k d low =
    one-in starts start k d low (λ z. (z +ℤ duration) ≤ℤ new) (λ front. let b = by k d front in omega (arith, ints, b, later)) (λ last. omega (arith, ints, is))

-- starts that a TAL can have
pub none-near : AreNear []
none-near k d low = absurd (omega (arith, low))

pub near-more : (starts : List ℤ) (start : ℤ) → AreNear starts → unsigned_abs start < 10 ^ 21 → AreNear (starts ++ start ∷ [])
near-more starts start near one k d low = one-in starts start k d low (λ z. unsigned_abs z < 10 ^ 21) (near k d) (λ e. one)

-- the start of a data record is one
pub start-near : (h : Head) (bytes : List ℕ) → unsigned_abs (start_in h bytes) < 10 ^ 21
unfolding said_start
start-near h bytes = said (annotation_lanes h.signals bytes)
  where
    said : (lanes : List (List ℕ)) → unsigned_abs (or_zero (start_by_lanes lanes)) < 10 ^ 21
    said [] = lit< tt
    said (lane ∷ lanes) = cases (start_of (items_of lane)) refl
      where
        cases : (r : Result ℤ StartCause) → r ≡ start_of (items_of lane) → unsigned_abs (or_zero (start_of (items_of lane))) < 10 ^ 21
        cases (Err cause) e = subst (λ (x : Result ℤ StartCause). unsigned_abs (or_zero x) < 10 ^ 21) e (lit< tt)
        cases (Ok v) e = subst (λ (x : Result ℤ StartCause). unsigned_abs (or_zero x) < 10 ^ 21) e (start_small lane v ((starts-at (Ok v) lane v e).0 refl))
