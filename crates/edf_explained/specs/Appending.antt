-- What a sink holds behind sentences that were written to it.
use Rattle.std.specs.Prelude.{◌≡◌, ℕ, List, ◌++◌}

-- what was held stands in front, and some text behind it
abbrev pub Appended : List ℕ → List ℕ → Type 0
Appended old new = (more : List ℕ) × (new ≡ old ++ more)
