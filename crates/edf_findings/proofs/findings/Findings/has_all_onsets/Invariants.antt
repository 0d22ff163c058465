use Rattle.std.proofs.Common.{◌≡◌, ◌↔◌, drop, length, sum_by}
use Rattle.edf_findings.specs.Exports.{count_onsets}
use Rattle.edf_findings.proofs.findings.Findings.has_all_onsets.Given as goal

abbrev pub invariant-loop-part : goal.invariant-loop-part
invariant-loop-part l = (sum_by count_onsets l.self.parts.items ≡ length l.self.notes.exported.items) ↔ (sum_by count_onsets (drop l.part-index l.self.parts.items) ≡ l.left)
