-- Zeros at the front of a list of bytes.
use Rattle.std.specs.Prelude.{◌≡◌, ℕ, ◌<◌, List, slice_index}

-- the first n bytes are zeros
abbrev pub HasZerosBefore : ℕ → List ℕ → Type 0
HasZerosBefore n bytes = (k : ℕ) → k < n → slice_index bytes k ≡ 0
