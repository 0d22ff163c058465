-- From the parts of a walk to what it found.
use Rattle.std.proofs.Common.{◌≡◌, ℕ, List, []}
use Rattle.edf_claim.specs.ClaimValues.{ClaimValue}
use Rattle.edf_header.specs.HeadsReading.{head_of}
use Rattle.edf_verdict.specs.declared.verdict.Verdict.{Verdict}
use Rattle.edf_verdict.specs.declared.verdict.Verdict.TheVariants.{Yes, No}
use Rattle.edf_verdict.specs.declared.verdict.Difference.TheVariants as differences
use Rattle.edf_check.specs.Checks.{AreRead}
use Rattle.edf_check.specs.Exports.{BothConform}
use Rattle.edf_heads.specs.HeadVerdicts.{IsHeadVerdict}
use Rattle.edf_check.specs.Verdicts.{IsVerdict}

-- ---- what was walked, in the words of both files

-- a verdict on the headers is the verdict on the files
pub of_heads : (o e : List ℕ) (claim : ClaimValue) (v : Verdict) → BothConform o e → IsHeadVerdict (head_of o) (head_of e) claim v → IsVerdict o e claim v
of_heads o e claim (Yes channels samples annotations) both is = absurd is
of_heads o e claim (No (differences.OriginalFault fault)) both is = absurd is
of_heads o e claim (No (differences.ExportFault fault)) both is = absurd is
of_heads o e claim (No differences.PartOrder) both is = absurd is
of_heads o e claim (No (differences.Sample label at_ps mismatch)) both is = absurd is
of_heads o e claim (No (differences.Annotation mismatch onset duration text)) both is = absurd is
of_heads o e claim v both is = (both, is)

-- where both files were read to their ends, so much was read for any verdict
pub all_read : (v : Verdict) (a b : List ℕ) → (a ≡ []) × (b ≡ []) → AreRead v a b
all_read (No (differences.OriginalFault fault)) a b h = tt
all_read (No (differences.ExportFault fault)) a b h = h.0
all_read v a b h = h
