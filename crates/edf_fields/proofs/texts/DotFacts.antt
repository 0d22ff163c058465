-- Facts on the place of the first dot.
use Rattle.std.proofs.Common.{◌≡◌, ℕ, ◌+◌, ◌-◌, List, [], length, take, drop, Some, None, ◌==◌}
use Rattle.std.specs.List.{position}
use Rattle.edf_fields.specs.texts.Numbers.{before_dot, behind_dot}
use Rattle.edf_fields.proofs.PlaceFacts.{before_at, behind_at, before_none, behind_none}

pub before_dot_at : (xs : List ℕ) (k : ℕ) → position (λ b. b == 46) xs ≡ Some k → take k xs ≡ before_dot xs
before_dot_at xs k h = before_at (λ b. b == 46) xs k h

pub behind_dot_at : (xs : List ℕ) (k : ℕ) → position (λ b. b == 46) xs ≡ Some k → take (length xs - (k + 1)) (drop (k + 1) xs) ≡ behind_dot xs
behind_dot_at xs k h = behind_at (λ b. b == 46) xs k h

pub before_no_dot : (xs : List ℕ) → position (λ b. b == 46) xs ≡ None → xs ≡ before_dot xs
before_no_dot xs h = before_none (λ b. b == 46) xs h

pub behind_no_dot : (xs : List ℕ) → position (λ b. b == 46) xs ≡ None → [] ≡ behind_dot xs
behind_no_dot xs h = behind_none (λ b. b == 46) xs h
