-- The spaces between the subfields of a text (EDF+, "Additional specifications in EDF+").
use Rattle.std.specs.Prelude.{ℕ, Bool, not, nat_lt, if◌then◌else◌, List, [], ◌∷◌, length, filter, map}
use Rattle.std.specs.List.{slice_split}
use Rattle.edf_fields.specs.texts.SubfieldsReading.{is_space}

-- the byte is no space
abbrev pub is_other : ℕ → Bool
is_other b = not (is_space b)

-- how many spaces stand in each stretch of them, in order
unfoldable pub spaces_of : List ℕ → List ℕ
spaces_of text = filter (λ n. nat_lt 0 n) (map length (slice_split is_other text))

-- a stretch of so many spaces, if there is one
abbrev pub stretch : ℕ → List ℕ
stretch n = if nat_lt 0 n then n ∷ [] else []
