-- Printable ASCII (EDF, "Header record"; EDF+, "Additional specifications in EDF+").
use Rattle.std.specs.Prelude.{ℕ, ◌≤◌, List}
use Rattle.std.specs.List.{All}

-- each byte is printable ASCII, 32 to 126 (EDF, "Header record")
abbrev pub IsPrintable : List ℕ → Type 0
IsPrintable bytes = All (λ b. (32 ≤ b) × (b ≤ 126)) bytes
