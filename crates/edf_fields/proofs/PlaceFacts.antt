-- Facts on the place of the first byte that passes a test.
use Rattle.std.proofs.Common.{◌≡◌, ℕ, ◌+◌, ◌-◌, ◌≤◌, Bool, true, false, cond, List, [], length, take, drop, arith, refl, ap, ◌∙◌, sym, Some, None, nat_lt}
use Rattle.std.proofs.Math.ListN.{drop_of_length-le}
use Rattle.std.proofs.Math.Seq.{take-length}
use Rattle.std.proofs.lemmas.Bool.Decides.{nat_tests}
use Rattle.std.proofs.lemmas.List.Sums.{prefix_len-le-length}
use Rattle.std.specs.List.{position, position_or_len, before_first, after_first}
use Rattle.std.specs.Prelude.{not}
use Rattle.edf_fields.proofs.ReadFacts.{rest_whole}

cond_some : (t : Bool) (n k : ℕ) → cond t (Some n) None ≡ Some k → n ≡ k
cond_some true n k h = cc
cond_some false n k h = absurd (cc)

cond_none : (t : Bool) (n : ℕ) → cond t (Some n) None ≡ None → t ≡ false
cond_none true n h = absurd (cc)
cond_none false n h = refl

not_lt : (a b : ℕ) → nat_lt a b ≡ false → b ≤ a
not_lt a b h = grind (arith, nat_tests)

-- where a byte passes
pub place_found : (p : ℕ → Bool) (xs : List ℕ) (k : ℕ) → position p xs ≡ Some k → position_or_len p xs ≡ k
place_found p xs k h = cond_some (nat_lt (position_or_len p xs) (length xs)) (position_or_len p xs) k h

-- where none does
pub place_missing : (p : ℕ → Bool) (xs : List ℕ) → position p xs ≡ None → position_or_len p xs ≡ length xs
place_missing p xs h =
    let low : length xs ≤ position_or_len p xs = not_lt _ _ (cond_none (nat_lt (position_or_len p xs) (length xs)) (position_or_len p xs) h) in
    let high : position_or_len p xs ≤ length xs = prefix_len-le-length (λ b. not (p b)) xs in
    omega arith

pub before_at : (p : ℕ → Bool) (xs : List ℕ) (k : ℕ) → position p xs ≡ Some k → take k xs ≡ before_first p xs
before_at p xs k h = ap (λ n. take n xs) (sym (place_found p xs k h))

pub behind_at : (p : ℕ → Bool) (xs : List ℕ) (k : ℕ) → position p xs ≡ Some k → take (length xs - (k + 1)) (drop (k + 1) xs) ≡ after_first p xs
behind_at p xs k h = rest_whole (k + 1) xs ∙ ap (λ n. drop (n + 1) xs) (sym (place_found p xs k h))

pub before_none : (p : ℕ → Bool) (xs : List ℕ) → position p xs ≡ None → xs ≡ before_first p xs
before_none p xs h = sym (ap (λ n. take n xs) (place_missing p xs h) ∙ take-length xs)

pub behind_none : (p : ℕ → Bool) (xs : List ℕ) → position p xs ≡ None → [] ≡ after_first p xs
behind_none p xs h =
    let e : position_or_len p xs ≡ length xs = place_missing p xs h in
    sym (drop_of_length-le xs (omega arith))
