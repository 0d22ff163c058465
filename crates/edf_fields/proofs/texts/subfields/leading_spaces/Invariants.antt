use Rattle.std.proofs.Common.{length, ◌-◌, ◌≡◌, ◌≤◌, drop}
use Rattle.edf_fields.specs.texts.SubfieldsReading.{subfields_of}
use Rattle.edf_fields.proofs.texts.subfields.leading_spaces.Given as goal

abbrev pub invariant-loop-start : goal.invariant-loop-start
invariant-loop-start l = record { within : l.start ≤ length l.text; same : subfields_of (drop l.start l.text) ≡ subfields_of l.text }

abbrev pub decreases-loop-start : goal.decreases-loop-start
decreases-loop-start l = length l.text - l.start
