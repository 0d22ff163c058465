use Rattle.edf_findings.specs.Found.{AreFoundIn}
use Rattle.edf_findings.proofs.looker.findings_in.Given as goal

abbrev pub invariant-loop-part : goal.invariant-loop-part
invariant-loop-part l = AreFoundIn l.under.claim.now l.under.labels.now l.under.original.now l.yielded l.found.items
