-- The first of a list of which something holds.
use Rattle.std.specs.Prelude.{◌≡◌, List, [], ◌∷◌, ◌⊎◌}

-- this holds of x, which stands in the list, and of nothing before it there
abbrev pub IsFirstWith : {X : Type 0} → (X → Type 0) → List X → X → Type 0
IsFirstWith Holds [] x = ⊥
IsFirstWith Holds (y ∷ ys) x = ((y ≡ x) × Holds y) ⊎ ((Holds y → ⊥) × IsFirstWith Holds ys x)
