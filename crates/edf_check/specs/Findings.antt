-- The verdict on what a check finds first, in one of five ways.
use Rattle.std.specs.Prelude.{ℕ}
use Rattle.edf_check.specs.Words.{PartsVerdict}
use Rattle.edf_pace.specs.declared.walk.fault_of.FaultOf.TheVariants.{Original, Part}
use Rattle.edf_check.specs.declared.finding.Finding.{Finding}
use Rattle.edf_check.specs.declared.finding.Finding.TheVariants as findings
use Rattle.edf_verdict.specs.declared.verdict.Verdict.TheVariants.{No}
use Rattle.edf_verdict.specs.declared.verdict.Difference.{Difference}
use Rattle.edf_verdict.specs.declared.verdict.Difference.TheVariants.{OriginalFault, ExportFault, PartOrder, Sample, Annotation}

-- a No, said of this part
abbrev pub no_on : ℕ → Difference → PartsVerdict
no_on part difference = record { part = part; verdict = No difference }

abbrev pub verdict_on : Finding → PartsVerdict
verdict_on (findings.Fault (Original fault)) = no_on 0 (OriginalFault fault)
verdict_on (findings.Fault (Part part fault)) = no_on part (ExportFault fault)
verdict_on (findings.Heads part verdict) = record { part = part; verdict = verdict }
verdict_on (findings.Order part) = no_on part PartOrder
verdict_on (findings.Sample found) = no_on 0 (Sample found.label found.at_ps found.mismatch)
verdict_on (findings.Annotation found) = no_on 0 (Annotation found.mismatch found.onset found.duration found.text)
