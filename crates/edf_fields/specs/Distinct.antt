-- Texts of which no two are the same.
use Rattle.std.specs.Prelude.{ℕ, Bool, true, not, ◌&&◌, List, [], ◌∷◌}
use Rattle.edf_fields.specs.Lists.{Has, is_one_of}

-- no member of the list stands in it again
abbrev pub AreDistinct : {X : Type 0} → List X → Type 0
AreDistinct [] = Unit {0}
AreDistinct (x ∷ xs) = (Has xs x → ⊥) × AreDistinct xs

-- `AreDistinct` as a test of texts
abbrev pub are_distinct : List (List ℕ) → Bool
are_distinct [] = true
are_distinct (t ∷ ts) = not (is_one_of ts t) && are_distinct ts
