-- Which of two verdicts on two files, under two claims, is the better one.
use Rattle.std.specs.Prelude.{ℕ, ℤ, pos, Bool, true, false, ◌==◌, ◌&&◌, ◌||◌, nat_lt, int_lt}
use Rattle.edf_verdict.specs.Lines.{number_of}
use Rattle.edf_verdict.specs.declared.verdict.Difference.{Difference}
use Rattle.edf_verdict.specs.declared.verdict.Difference.TheVariants.{Sample, Annotation}
use Rattle.edf_verdict.specs.declared.verdict.Verdict.{Verdict}
use Rattle.edf_verdict.specs.declared.verdict.Verdict.TheVariants.{Yes, No}

-- the instant of a difference, in picoseconds after the second at which the original starts; 0 where it has none
abbrev pub instant_of : Difference → ℤ
instant_of (Sample label at_ps mismatch) = at_ps
instant_of (Annotation mismatch onset duration text) = onset
instant_of difference = pos 0

-- the first difference has a greater number than the second, or the same number and a later instant
abbrev pub is_behind : Difference → Difference → Bool
is_behind d e =
    nat_lt (number_of e) (number_of d) || ((number_of d == number_of e) && int_lt (instant_of e) (instant_of d))

-- the first verdict is a Yes and the second isn't, or its difference is behind that of the second
abbrev pub is_better : Verdict → Verdict → Bool
is_better v (Yes channels samples annotations) = false
is_better (Yes channels samples annotations) (No e) = true
is_better (No d) (No e) = is_behind d e
