-- How far an original and its parts were read, by the verdict.
use Rattle.std.proofs.Common.{◌≡◌, ℕ, List, [], ◌∷◌}
use Rattle.std.specs.List.{AllByRecursion}
use Rattle.edf_verdict.specs.declared.verdict.Verdict.{Verdict}
use Rattle.edf_check.specs.Checks.{AreRead}
use Rattle.edf_pace.specs.declared.walk.fault_of.FaultOf.{FaultOf}
use Rattle.edf_pace.specs.declared.walk.fault_of.FaultOf.TheVariants as faults
use Rattle.edf_check.specs.declared.finding.Finding.TheVariants as findings
use Rattle.edf_check.specs.Findings.{verdict_on}
use Rattle.edf_check.specs.parts.Together.{IsLeftBy}
use Rattle.edf_check.proofs.WalkFacts.{all_read}

pub read_all : (v : Verdict) (left : List ℕ) (lefts : List (List ℕ)) → left ≡ [] → AllByRecursion (λ l. l ≡ []) lefts → AllByRecursion (AreRead v left) lefts
read_all v left [] p q = tt
read_all v left (mine ∷ lefts) p q = (all_read v left mine (p, q.0), read_all v left lefts p q.1)

-- behind a fault
pub read_fault : (fault : FaultOf) (left : List ℕ) (lefts : List (List ℕ)) → IsLeftBy fault left → AllByRecursion (AreRead (verdict_on (findings.Fault fault)).verdict left) lefts
read_fault fault left [] p = tt
read_fault (faults.Original f) left (mine ∷ lefts) p = (tt, read_fault (faults.Original f) left lefts p)
read_fault (faults.Part part f) left (mine ∷ lefts) p = (p, read_fault (faults.Part part f) left lefts p)
