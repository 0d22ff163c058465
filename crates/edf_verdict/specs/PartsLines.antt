-- The line of text of a verdict on several exports.
use Rattle.std.specs.Prelude.{ℕ, Bool, true, false, if◌then◌else◌, List, [], ◌∷◌, ◌++◌, codes}
use Rattle.std.specs.Fmt.{decimal}
use Rattle.edf_verdict.specs.declared.parts_verdict.PartsVerdict.{PartsVerdict}
use Rattle.edf_verdict.specs.declared.verdict.Difference.{Difference}
use Rattle.edf_verdict.specs.declared.verdict.Difference.TheVariants.{OriginalFault, UnknownChannel, Sample, Annotation}
use Rattle.edf_verdict.specs.declared.verdict.Verdict.{Verdict}
use Rattle.edf_verdict.specs.declared.verdict.Verdict.TheVariants.{Yes, No}
use Rattle.edf_verdict.specs.Lines.{number_of, no_text, what_text}

-- the difference is said of one of the exports, and not of the original, of the claim, or of all exports together
abbrev pub is_of_part : Difference → Bool
is_of_part (OriginalFault fault) = false
is_of_part (UnknownChannel label) = false
is_of_part (Sample label at_ps mismatch) = false
is_of_part (Annotation mismatch onset duration text) = false
is_of_part difference = true

-- which export, counted from 0
unfoldable pub part_words : ℕ → List ℕ
part_words part = codes "part " ++ (decimal part ++ codes " ")

-- a difference in words: NO, its number, which export, where it is said of one, its kind, and what it is about
abbrev pub part_difference_text : ℕ → Difference → List ℕ
part_difference_text part difference = no_text (number_of difference) ++ ((if is_of_part difference then part_words part else []) ++ what_text difference)

-- how many exports there are, and what was compared
unfoldable pub parts_counts_text : ℕ → ℕ → ℕ → ℕ → List ℕ
parts_counts_text parts channels samples annotations =
    codes "YES parts " ++ (decimal parts ++ (codes " channels " ++ (decimal channels ++ (codes " samples " ++ (decimal samples ++ (codes " annotations " ++ decimal annotations))))))

-- a verdict on so many exports in words
abbrev pub parts_verdict_text : ℕ → ℕ → Verdict → List ℕ
parts_verdict_text parts part (Yes channels samples annotations) = parts_counts_text parts channels samples annotations
parts_verdict_text parts part (No difference) = part_difference_text part difference

-- the verdict as one line, with its end
abbrev pub parts_verdict_line : ℕ → PartsVerdict → List ℕ
parts_verdict_line parts verdict = parts_verdict_text parts verdict.part verdict.verdict ++ (10 ∷ [])
