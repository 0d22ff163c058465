-- The subfields of a text, which contain no spaces and are separated by them (EDF+, "Additional specifications in EDF+").
-- That more than one space may stand between two is this project's profile.
use Rattle.std.specs.Prelude.{◌≡◌, ◌≢◌, ℕ, ◌<◌, List, [], ◌∷◌, ◌++◌, length, replicate}
use Rattle.std.specs.List.{All}

-- at least one byte, and none of them a space
abbrev pub IsSubfield : List ℕ → Type 0
IsSubfield s = (0 < length s) × All (λ b. b ≢ 32) s

-- the text is these subfields in order, with spaces between two of them and nothing else; that there may be more than one
-- space is this project's profile
abbrev pub HasSubfields : List ℕ → List (List ℕ) → Type 0
HasSubfields t [] = t ≡ []
HasSubfields t (s ∷ []) = IsSubfield s × (t ≡ s)
HasSubfields t (s ∷ next ∷ more) =
    IsSubfield s
    × (n : ℕ) × (rest : List ℕ)
    × (0 < n)
    × (t ≡ s ++ (replicate n 32 ++ rest))
    × HasSubfields rest (next ∷ more)
