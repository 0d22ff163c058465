use Rattle.std.proofs.Common.{◌≡◌, ℕ, ◌+◌, ◌==◌, ◌||◌, ◌<◌, length, take, drop, get_or, Bool, true, false, refl, sym, ap, ◌∙◌, arith}
use Rattle.std.proofs.lemmas.List.Sums.{position_or_len_is}
use Rattle.std.proofs.lemmas.List.{take_rest}
use Rattle.edf_tal.proofs.separator.cut_apart.Goals as goal

-- of two equal tests
one : (b : Bool) → (b || b) ≡ true → b ≡ true
one true _ = refl
one false h = h

neither : (b : Bool) → ¬ ((b || b) ≡ true) → b ≡ false
neither true h = absurd (h refl)
neither false h = refl

pub returns-in-Some : goal.returns-in-Some
returns-in-Some c =
    let bytes = c.args.bytes.now in
    let first = c.in-Some.ensures in
    let place = c.in-Some.place in
    let inside : place < length bytes = first.0.high in
    let found = position_or_len_is (λ (b : ℕ). b == c.args.separator) bytes place 0 (omega (arith, inside))
    (λ k lt. neither (get_or bytes k 0 == c.args.separator) (first.0.before k (omega arith) lt))
    (λ _. one (get_or bytes place 0 == c.args.separator) first.1) in
    (omega (arith, found, inside), ap (λ n. take n bytes) (sym found), take_rest bytes _ ∙ ap (λ n. drop (n + 1) bytes) (sym found))

pub returns-in-None : goal.returns-in-None
returns-in-None c =
    let bytes = c.args.bytes.now in
    position_or_len_is (λ (b : ℕ). b == c.args.separator) bytes (length bytes) 0 (omega arith)
    (λ k lt. neither (get_or bytes k 0 == c.args.separator) (c.in-None.ensures k (omega arith) lt)) (λ lt. absurd (omega (arith, lt)))
