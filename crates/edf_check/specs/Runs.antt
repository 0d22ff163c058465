-- What a check under the claim of a text says, and what a run writes: of one export, and of several.
use Rattle.std.specs.Prelude.{◌≡◌, ◌≢◌, ℕ, List, ◌++◌, Bool, IsTrue, length, map}
use Rattle.edf_check.specs.Words.{SaysClaimText, FirstClaimFault, ClaimValue, ClaimStop, Fails, Reads, Ghosts, outcome_of, Outcome, Verdict, AllByRecursion, PartsVerdict}
use Rattle.edf_fields.specs.in_out.Sinks.{HoldsPrefix}
use Rattle.edf_stop.specs.declared.stops.RunStop.{RunStop}
use Rattle.edf_stop.specs.declared.stops.RunStop.TheVariants.{OutOfMemory, ReadFailed, Claim, WriteFailed}
use Rattle.edf_verdict.specs.Lines.{verdict_line}
use Rattle.edf_stop.specs.declared.parts_stops.PartsRunStop.{PartsRunStop}
use Rattle.edf_stop.specs.declared.parts_stops.PartsRunStop.TheVariants.{OutOfMemory, ReadFailed, Claim, WriteFailed}
use Rattle.edf_verdict.specs.PartsLines.{parts_verdict_line}
use Rattle.edf_check.specs.Headline.{YesMeans}
use Rattle.edf_check.specs.Verdicts.{IsVerdict}
use Rattle.edf_pace.specs.PartsStops.{HasFailed}
use Rattle.edf_check.specs.parts.PartsVerdicts.{IsPartsVerdict}
use Rattle.edf_claim.specs.declared.stop.ClaimStop.TheVariants as claims
use Rattle.edf_stop.specs.declared.sides.Side.TheVariants as sides
use Rattle.edf_stop.specs.declared.parts_stops.PartSide.TheVariants as part_sides

-- this is the verdict on two files under the claim that a text says
pub record IsVerdictUnder (original export text : List ℕ) (verdict : Verdict) : Type 0 where
  pub claim : ClaimValue
  pub says : SaysClaimText text claim
  pub is : IsVerdict original export claim verdict
  pub means : YesMeans original export claim verdict

-- of two sources with these bytes it is so where both are honest
abbrev pub IsJudged : (honest : Bool) (original : List ℕ) (sound : Bool) (export text : List ℕ) → Verdict → Type 0
IsJudged honest original sound export text verdict = IsTrue honest → IsTrue sound → IsVerdictUnder original export text verdict

-- the same, said of the sources
abbrev pub IsJudgedBy : {O E : Type 0} → Ghosts O → Ghosts E → O → E → (text : List ℕ) → Verdict → Type 0
IsJudgedBy original export o e = IsJudged (original.is_honest o) (original.left o) (export.is_honest e) (export.left e)

-- behind what was held stands the text of such a verdict, and nothing else; the outcome is the verdict's
pub record IsWritten (V : Type 0) (IsSuch : V → Type 0) (text_of : V → List ℕ) (outcome_of_it : V → Outcome) (old new : List ℕ) (outcome : Outcome) : Type 0 where
  pub verdict : V
  pub under : IsSuch verdict
  pub text_is : new ≡ old ++ text_of verdict
  pub outcome_is : outcome ≡ outcome_of_it verdict

-- behind what was held stands a front of the text of such a verdict
pub record IsPartWritten (V : Type 0) (IsSuch : V → Type 0) (text_of : V → List ℕ) (old new : List ℕ) : Type 0 where
  pub verdict : V
  pub under : IsSuch verdict
  pub part : HoldsPrefix old new (text_of verdict)

-- the line of the verdict on two files under the claim that a text says was written, with its outcome
abbrev pub IsReport : (original export text old new : List ℕ) (outcome : Outcome) → Type 0
IsReport original export text = IsWritten Verdict (IsVerdictUnder original export text) verdict_line outcome_of

-- a front of that line was written
abbrev pub IsPartOfReport : (original export text old new : List ℕ) → Type 0
IsPartOfReport original export text = IsPartWritten Verdict (IsVerdictUnder original export text) verdict_line

-- the same, whatever the sources are: a front of the line of some verdict
abbrev pub IsFrontOfALine : (old new : List ℕ) → Type 0
IsFrontOfALine = IsPartWritten Verdict (λ verdict. Unit {0}) verdict_line

-- of a refused claim this is said, of a failed read of the original or of the export that, of a failed write the fourth, and of want of
-- memory the last: that no read failed
abbrev pub RunStops : (ClaimStop → Type 0) → Type 0 → Type 0 → Type 0 → Type 0 → RunStop → Type 0
RunStops refused original export failed none OutOfMemory = none
RunStops refused original export failed none (ReadFailed sides.Original) = original
RunStops refused original export failed none (ReadFailed sides.Export) = export
RunStops refused original export failed none (Claim cause) = refused cause
RunStops refused original export failed none WriteFailed = failed

-- of what is told of the reads of both sources, before and behind, this is said of a judgement under the claim of a text that stops
abbrev pub JudgeStops : (text : List ℕ) (original original_behind export export_behind : Reads) → RunStop → Type 0
JudgeStops text original original_behind export export_behind =
    RunStops (λ cause. (cause ≢ claims.OutOfMemory) × FirstClaimFault text cause) (Fails original original_behind) (Fails export export_behind)
    ⊥ ((original_behind ≡ original) × (export_behind ≡ export))

-- the same of two sources
abbrev pub JudgeStopsOf : {O E : Type 0} → Ghosts O → Ghosts E → O → O → E → E → (text : List ℕ) → RunStop → Type 0
JudgeStopsOf original export o o' e e' text = JudgeStops text (original.reads o) (original.reads o') (export.reads e) (export.reads e')

-- this is the verdict on an original and several exports under the claim that a text says
pub record IsPartsVerdictUnder (original : List ℕ) (parts : List (List ℕ)) (text : List ℕ) (verdict : PartsVerdict) : Type 0 where
  pub claim : ClaimValue
  pub says : SaysClaimText text claim
  pub is : IsPartsVerdict original parts claim verdict

-- of sources with these bytes it is so where all are honest
abbrev pub IsPartsJudged : (honest : Bool) (original : List ℕ) (sound : List Bool) (parts : List (List ℕ)) (text : List ℕ) → PartsVerdict → Type 0
IsPartsJudged honest original sound parts text verdict = IsTrue honest → AllByRecursion IsTrue sound → IsPartsVerdictUnder original parts text verdict

-- the same, said of the sources
abbrev pub ArePartsJudgedBy : {O E : Type 0} → Ghosts O → Ghosts E → O → List E → (text : List ℕ) → PartsVerdict → Type 0
ArePartsJudgedBy original export o parts = IsPartsJudged (original.is_honest o) (original.left o) (map export.is_honest parts) (map export.left parts)

-- the line of that verdict was written, with its outcome
abbrev pub IsPartsReport : (original : List ℕ) (parts : List (List ℕ)) (text old new : List ℕ) (outcome : Outcome) → Type 0
IsPartsReport original parts text =
    IsWritten PartsVerdict (IsPartsVerdictUnder original parts text) (parts_verdict_line (length parts)) (λ verdict. outcome_of verdict.verdict)

-- a front of that line was written
abbrev pub IsPartOfPartsReport : (original : List ℕ) (parts : List (List ℕ)) (text old new : List ℕ) → Type 0
IsPartOfPartsReport original parts text = IsPartWritten PartsVerdict (IsPartsVerdictUnder original parts text) (parts_verdict_line (length parts))

-- the same, whatever the sources are: a front of the line of some verdict on so many exports
abbrev pub IsFrontOfAPartsLine : (parts : ℕ) (old new : List ℕ) → Type 0
IsFrontOfAPartsLine parts = IsPartWritten PartsVerdict (λ verdict. Unit {0}) (parts_verdict_line parts)

-- of a refused claim this is said, of a failed read of the original that, of a failed write the third, and of want of memory the fourth: that
-- no read failed; of a failed read of an export it is said that it was one of this
abbrev pub PartsRunStops : (ClaimStop → Type 0) → Type 0 → Type 0 → Type 0 → List Reads → List Reads → PartsRunStop → Type 0
PartsRunStops refused original failed none olds news OutOfMemory = none
PartsRunStops refused original failed none olds news (ReadFailed part_sides.Original) = original
PartsRunStops refused original failed none olds news (ReadFailed (part_sides.Part part)) = HasFailed 0 olds news part
PartsRunStops refused original failed none olds news (Claim cause) = refused cause
PartsRunStops refused original failed none olds news WriteFailed = failed

-- of what is told of the reads of all sources, before and behind, this is said of a judgement under the claim of a text that stops
abbrev pub PartsJudgeStops : (text : List ℕ) (original original_behind : Reads) (olds news : List Reads) → PartsRunStop → Type 0
PartsJudgeStops text original original_behind olds news =
    PartsRunStops (λ cause. (cause ≢ claims.OutOfMemory) × FirstClaimFault text cause) (Fails original original_behind)
    ⊥ ((original_behind ≡ original) × (news ≡ olds)) olds news

-- the same of all sources
abbrev pub JudgeStopsOfAll : {O E : Type 0} → Ghosts O → Ghosts E → O → O → List E → List E → (text : List ℕ) → PartsRunStop → Type 0
JudgeStopsOfAll original export o o' parts parts' text =
    PartsJudgeStops text (original.reads o) (original.reads o') (map export.reads parts) (map export.reads parts')
