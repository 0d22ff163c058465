-- The parts of a file, and the texts of its fields (EDF, "Header record": the fields are ASCII, stand to the left and are filled with spaces).
use Rattle.std.specs.Prelude.{ℕ, ◌==◌, List, [], ◌∷◌, take, drop, if◌then◌else◌}
use Rattle.std.specs.List.{list_all}

-- the n bytes from place `at` on, cut short where the bytes end
abbrev pub part : List ℕ → ℕ → ℕ → List ℕ
part bytes at n = take n (drop at bytes)

-- the text of a field, without the spaces that fill it behind the text (EDF, "Header record")
abbrev pub text_of : List ℕ → List ℕ
text_of [] = []
text_of (c ∷ cs) = if list_all (λ b. b == 32) (c ∷ cs) then [] else c ∷ text_of cs
