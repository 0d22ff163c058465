-- The digits in front of a text, and the time of a text that has few of them.
use Rattle.std.proofs.Common.{◌≡◌, ℕ, ◌+◌, ◌-◌, ◌*◌, ◌^◌, ◌<◌, ◌≤◌, true, false, List, [], ◌∷◌, length, take, drop, get_or, nat_lt, arith, refl, sym, ap, subst, ◌∙◌, ◌==◌}
use Rattle.edf_fields.proofs.texts.ZeroFacts.{weight_leading}
use Rattle.std.specs.List.{position_or_len, list_any}
use Rattle.std.proofs.lemmas.Bool.Decides.{nat_tests}
use Rattle.std.proofs.lemmas.Grind.{common_steps}
use Rattle.std.proofs.lemmas.List.{get_or-take, length-take, length-drop, take_all}
use Rattle.std.proofs.lemmas.List.Sums.{position_or_len_is}
use Rattle.std.proofs.Math.ListN.{drop_of_length-le}
use Rattle.edf_fields.specs.texts.Numbers.{AreDigits, weight, before_dot, behind_dot}
use Rattle.edf_fields.specs.texts.OnsetsReading.{AreDigitsBefore, AreSeconds, IsFraction, without_leading_zeros, without_trailing_zeros, IsTimeRead, time_read}
use Rattle.edf_fields.proofs.texts.OnsetFacts.{dot_stands}

length_leading : (w : List ℕ) → length (without_leading_zeros w) ≤ length w
length_leading [] = omega arith
length_leading (c ∷ cs) = grind (arith, nat_tests, common_steps, length_leading cs)

digit-no-dot : (b : ℕ) → 48 ≤ b → (b == 46) ≡ false
digit-no-dot b h = grind (arith, nat_tests)

not-below : (n : ℕ) → nat_lt n n ≡ false
not-below n = grind (arith, nat_tests)

below : (a b : ℕ) → a < b → nat_lt a b ≡ true
below a b h = grind (arith, nat_tests)

-- where the first dot stands
dot-at : (u : List ℕ) (n : ℕ) → n ≤ length u → AreDigitsBefore n u → (n < length u → (get_or u n 0 == 46) ≡ true) → position_or_len (λ b. b == 46) u ≡ n
dot-at u n le digits dot = position_or_len_is (λ b. b == 46) u n 0 le (λ k lt. digit-no-dot (get_or u k 0) (digits k lt).0) dot

digits-taken : (u : List ℕ) (n : ℕ) → n ≤ length u → AreDigitsBefore n u → AreDigits (take n u)
digits-taken u n le digits k lt =
    let l : k < n = omega (arith, le, lt, length-take n u) in
    let P : ℕ → Type 0 = λ b. (48 ≤ b) × (b ≤ 57) in
    subst P (sym (get_or-take n u k 0 l)) (digits k l)

seconds-taken : (u : List ℕ) (n : ℕ) → n ≤ length u → 0 < n → n ≤ 9 → AreDigitsBefore n u → AreSeconds (take n u)
seconds-taken u n le some few digits =
    let size : length (take n u) ≡ n = omega (arith, le, length-take n u) in
    let less = length_leading (take n u) in
    (digits-taken u n le digits, omega (arith, size, some), omega (arith, less, size, few))

-- a text of digits, 9 at most
pub plain_time : (u : List ℕ) (n s v : ℕ) → n ≡ length u → 0 < n → n ≤ 9 → AreDigitsBefore n u → s ≡ weight (take n u) → v ≡ s * 10 ^ 12 + 0 → IsTimeRead u × (v ≡ time_read u)
plain_time u n s v all some few digits es ev =
    let le : n ≤ length u = omega (arith, all) in
    let at : position_or_len (λ b. b == 46) u ≡ n = dot-at u n le digits (λ lt. absurd (omega (arith, lt, all))) in
    let front : before_dot u ≡ take n u = ap (λ k. take k u) at in
    let rest : behind_dot u ≡ [] = ap (λ k. drop (k + 1) u) at ∙ drop_of_length-le u (omega (arith, all)) in
    let whole : take n u ≡ u = take_all n u (omega (arith, all)) in
    let none : list_any (λ b. b == 46) u ≡ false = dot_stands u ∙ ap (λ w. nat_lt (length w) (length u)) (front ∙ whole) ∙ not-below (length u) in
    let seconds : AreSeconds (before_dot u) = subst AreSeconds (sym front) (seconds-taken u n le some few digits) in
    let nothing : IsFraction [] = ((λ k lt. absurd (omega (arith, lt))), omega arith) in
    let fraction : IsFraction (behind_dot u) = subst IsFraction (sym rest) nothing in (
      (seconds, fraction, λ dot. absurd (let f : false ≡ true = sym none ∙ dot in cc)),
      ev ∙ ap (λ k. k * 10 ^ 12 + 0) (es ∙ sym (weight_leading (take n u)))
          ∙ ap (λ w. weight (without_leading_zeros w) * 10 ^ 12 + 0) (sym front)
          ∙ ap (λ f. weight (without_leading_zeros (before_dot u)) * 10 ^ 12 + weight (without_trailing_zeros f) * 10 ^ (12 - length (without_trailing_zeros f))) (sym rest),
    )

-- a text of such digits and a dot behind them
module _ (u : List ℕ) (n : ℕ) (within : n < length u) (some : 0 < n) (few : n ≤ 9) (digits : AreDigitsBefore n u) (dot : get_or u n 0 ≡ 46) where
  at : position_or_len (λ b. b == 46) u ≡ n
  at = dot-at u n (omega (arith, within)) digits (λ lt. ap (λ b. b == 46) dot)

  front : before_dot u ≡ take n u
  front = ap (λ k. take k u) at

  rest : behind_dot u ≡ drop (n + 1) u
  rest = ap (λ k. drop (k + 1) u) at

  pub dotted_missing : (IsFraction (drop (n + 1) u) → ⊥) → IsTimeRead u → ⊥
  dotted_missing h time = h (subst IsFraction rest time.1)

  pub dotted_time : (s p v : ℕ) → n + 1 < length u → IsFraction (drop (n + 1) u) → s ≡ weight (take n u)
      → p ≡ weight (without_trailing_zeros (drop (n + 1) u)) * 10 ^ (12 - length (without_trailing_zeros (drop (n + 1) u))) → v ≡ s * 10 ^ 12 + p → IsTimeRead u × (v ≡ time_read u)
  dotted_time s p v more fraction es ep ev =
      let seconds : AreSeconds (before_dot u) = subst AreSeconds (sym front) (seconds-taken u n (omega (arith, within)) some few digits) in
      let behind : IsFraction (behind_dot u) = subst IsFraction (sym rest) fraction in
      let size : 0 < length (behind_dot u) = rw rest (omega (arith, more, length-drop (n + 1) u)) in (
        (seconds, behind, λ _. size),
        ev ∙ ap (λ k. k * 10 ^ 12 + p) (es ∙ sym (weight_leading (take n u)))
            ∙ ap (λ w. weight (without_leading_zeros w) * 10 ^ 12 + p) (sym front)
            ∙ ap (λ k. weight (without_leading_zeros (before_dot u)) * 10 ^ 12 + k) ep
            ∙ ap (λ f. weight (without_leading_zeros (before_dot u)) * 10 ^ 12 + weight (without_trailing_zeros f) * 10 ^ (12 - length (without_trailing_zeros f))) (sym rest),
      )
