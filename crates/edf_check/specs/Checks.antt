-- What a check leaves.
use Rattle.std.specs.Prelude.{◌≡◌, ℕ, List, [], IsTrue}
use Rattle.edf_check.specs.Words.{ClaimValue, Fails, Ghosts, Verdict}
use Rattle.edf_check.specs.Headline.{YesMeans}
use Rattle.edf_check.specs.Verdicts.{IsVerdict}
use Rattle.edf_stop.specs.declared.stops.CheckStop.{CheckStop}
use Rattle.edf_stop.specs.declared.stops.CheckStop.TheVariants.{OutOfMemory, ReadFailed}
use Rattle.edf_stop.specs.declared.sides.Side.TheVariants as sides
use Rattle.edf_verdict.specs.declared.verdict.Difference.TheVariants.{OriginalFault, ExportFault}
use Rattle.edf_verdict.specs.declared.verdict.Verdict.TheVariants.{No}

-- how far both files were read, by what they have left: to their ends, but for a fault; where the export has one, the original was
abbrev pub AreRead : Verdict → List ℕ → List ℕ → Type 0
AreRead (No (OriginalFault fault)) original export = Unit {0}
AreRead (No (ExportFault fault)) original export = original ≡ []
AreRead verdict original export = (original ≡ []) × (export ≡ [])

-- of a failed read of the original this is said, of one of the export that, and of want of memory the last: that no read failed
abbrev pub CheckStops : Type 0 → Type 0 → Type 0 → CheckStop → Type 0
CheckStops original export none OutOfMemory = none
CheckStops original export none (ReadFailed sides.Original) = original
CheckStops original export none (ReadFailed sides.Export) = export

-- ---- the same of two sources, before and behind

-- where both are honest, the headline holds of the files that they give
abbrev pub IsHeadlineOfTwo : {O E : Type 0} → Ghosts O → Ghosts E → O → E → ClaimValue → Verdict → Type 0
IsHeadlineOfTwo original export o e claim verdict =
    IsTrue (original.is_honest o) → IsTrue (export.is_honest e) → YesMeans (original.left o) (export.left e) claim verdict

-- and this is the verdict on them
abbrev pub IsVerdictOfTwo : {O E : Type 0} → Ghosts O → Ghosts E → O → E → ClaimValue → Verdict → Type 0
IsVerdictOfTwo original export o e claim verdict =
    IsTrue (original.is_honest o) → IsTrue (export.is_honest e) → IsVerdict (original.left o) (export.left e) claim verdict

-- and they were read as far as it says
abbrev pub AreReadOfTwo : {O E : Type 0} → Ghosts O → Ghosts E → O → O → E → E → Verdict → Type 0
AreReadOfTwo original export o o' e e' verdict =
    IsTrue (original.is_honest o) → IsTrue (export.is_honest e) → AreRead verdict (original.left o') (export.left e')

-- why a check of them stops
abbrev pub CheckStopsOf : {O E : Type 0} → Ghosts O → Ghosts E → O → O → E → E → CheckStop → Type 0
CheckStopsOf original export o o' e e' =
    CheckStops (Fails (original.reads o) (original.reads o')) (Fails (export.reads e) (export.reads e'))
    ((original.reads o' ≡ original.reads o) × (export.reads e' ≡ export.reads e))
