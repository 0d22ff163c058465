-- Words that are not empty and begin with no minus.
use Rattle.std.proofs.Common.{◌≡◌, ◌≢◌, ◌<◌, ℕ, List, ◌∷◌, false, nat_eq, suc, length, slice_index, arith}
use Rattle.std.proofs.lemmas.Bool.Decides.{nat_tests}
use Rattle.edf_jobs.specs.Jobs.{ArePlain}

-- a word that is not empty and begins with no minus
abbrev pub IsPlain : List ℕ → Type 0
IsPlain w = (0 < length w) × (slice_index w 0 ≢ 45)

pub first_is : (a : ℕ) → a ≢ 45 → nat_eq a 45 ≡ false
first_is a h = grind (arith, nat_tests)

pub tail_plain : (x : List ℕ) (xs : List (List ℕ)) → ArePlain (x ∷ xs) → ArePlain xs
tail_plain x xs plain k lt = plain (suc k) (omega arith)
