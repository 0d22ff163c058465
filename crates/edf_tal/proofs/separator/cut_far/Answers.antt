use Rattle.std.proofs.Common.{◌≡◌, ℕ, ◌+◌, ◌==◌, ◌<◌, length, take, drop, get_or, Bool, true, false, refl, sym, ap, ◌∙◌, arith}
use Rattle.std.proofs.lemmas.List.Sums.{position_or_len_is}
use Rattle.std.proofs.lemmas.List.{take_rest}
use Rattle.edf_tal.proofs.separator.cut_far.Goals as goal

no-true : (b : Bool) → ¬ (b ≡ true) → b ≡ false
no-true true h = absurd (h refl)
no-true false h = refl

pub returns-in-Some : goal.returns-in-Some
returns-in-Some c =
    let bytes = c.args.bytes.now in
    let first = c.in-Some.ensures in
    let place = c.in-Some.place in
    let inside : place < length bytes = first.0.high in
    let found = position_or_len_is (λ (b : ℕ). b == c.args.separator) bytes place 0 (omega (arith, inside))
    (λ k lt. no-true (get_or bytes k 0 == c.args.separator) (first.0.before k (omega arith) lt)) (λ _. first.1) in
    (omega (arith, found, inside), ap (λ n. take n bytes) (sym found), take_rest bytes _ ∙ ap (λ n. drop (n + 1) bytes) (sym found))

pub returns-in-None : goal.returns-in-None
returns-in-None c =
    let bytes = c.args.bytes.now in
    position_or_len_is (λ (b : ℕ). b == c.args.separator) bytes (length bytes) 0 (omega arith)
    (λ k lt. no-true (get_or bytes k 0 == c.args.separator) (c.in-None.ensures k (omega arith) lt)) (λ lt. absurd (omega (arith, lt)))
