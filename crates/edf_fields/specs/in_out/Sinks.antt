-- What a sink of bytes holds behind writes that may have failed.
use Rattle.std.specs.Prelude.{◌≡◌, ℕ, ◌≤◌, List, ◌++◌, take, length}

-- some bytes from the front of `bytes`, and no others, stand behind what was held
abbrev pub HoldsPrefix : List ℕ → List ℕ → List ℕ → Type 0
HoldsPrefix old new bytes = (n : ℕ) × (n ≤ length bytes) × (new ≡ old ++ take n bytes)
