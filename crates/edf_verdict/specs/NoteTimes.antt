-- When an annotation begins and how long it lasts, in words.
use Rattle.std.specs.Prelude.{ℕ, ℤ, List, ◌++◌, Option, None, Some, codes}
use Rattle.std.specs.Fmt.{signed_decimal}

-- a duration in picoseconds, where there is one
abbrev pub duration_text : Option ℤ → List ℕ
duration_text None = codes "none"
duration_text (Some ps) = signed_decimal ps ++ codes " ps"

-- the onset in picoseconds, and the duration
unfoldable pub note_times : ℤ → Option ℤ → List ℕ
note_times onset duration = signed_decimal onset ++ (codes " ps duration " ++ duration_text duration)
