-- Labels in the order of their bytes.
use Rattle.std.specs.Prelude.{◌≡◌, ◌<◌, ℕ, List, [], ◌∷◌, ◌⊎◌}

-- the first label isn't above the second one: it begins the second, or has the smaller byte where they first differ
abbrev pub IsNotAbove : List ℕ → List ℕ → Type 0
IsNotAbove [] other = Unit {0}
IsNotAbove (x ∷ label) [] = ⊥
IsNotAbove (x ∷ label) (y ∷ other) = (x < y) ⊎ ((x ≡ y) × IsNotAbove label other)
