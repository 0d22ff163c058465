-- One digit more of a fraction.
use Rattle.std.proofs.Common.{◌≡◌, ◌<◌, ◌+◌, ◌-◌, ◌/◌, ◌%◌, ◌*◌, ◌^◌, ◌++◌, ◌==◌, ℕ, zero, suc, Bool, false, List, [], ◌∷◌, if◌then◌else◌, sym, ap, ◌∙◌, append_assoc, arith}
use Rattle.std.proofs.Math.Nat.{pow-suc}
use Rattle.edf_claim.specs.Spellings.{last_digits}

pub ten_power : (n : ℕ) → 0 < 10 ^ n
ten_power zero = omega arith
ten_power (suc n) = let less = ten_power n in let more : 10 ^ suc n ≡ 10 ^ n * 10 = pow-suc 10 n in omega (arith, less, more)

opened : (places number : ℕ) → (number == 0) ≡ false
    → last_digits (suc places) number ≡ (48 + number / 10 ^ places % 10) ∷ last_digits places (number % 10 ^ places)
opened places number other =
    ap (λ (b : Bool). if b then [] else (48 + number / 10 ^ places % 10) ∷ last_digits places (number % 10 ^ places)) other

pub digit_more : (text more whole : List ℕ) (places number unit : ℕ) → 0 < places → (number == 0) ≡ false → unit ≡ 10 ^ (places - 1)
    → more ≡ text ++ (48 + number / unit % 10) ∷ [] → text ++ last_digits places number ≡ whole
    → more ++ last_digits (places - 1) (number % unit) ≡ whole
digit_more text more whole zero number unit some other is pushed before = absurd (omega arith)
digit_more text more whole (suc p) number unit some other is pushed before =
    let less : suc p - 1 ≡ p = omega arith in
    let power : unit ≡ 10 ^ p = is ∙ ap (λ n. 10 ^ n) less in
    let rest = last_digits p (number % 10 ^ p) in
    let here = 48 + number / 10 ^ p % 10 in
    ap (λ n. more ++ last_digits n (number % unit)) less
    ∙ ap (λ u. more ++ last_digits p (number % u)) power
    ∙ ap (λ t. t ++ rest) (pushed ∙ ap (λ u. text ++ (48 + number / u % 10) ∷ []) power)
    ∙ append_assoc text (here ∷ []) rest
    ∙ ap (λ t. text ++ t) (sym (opened p number other))
    ∙ before
