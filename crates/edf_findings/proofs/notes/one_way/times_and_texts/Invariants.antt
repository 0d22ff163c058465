use Rattle.std.proofs.Common.{take}
use Rattle.edf_findings.specs.OneWays.{AreTimesAndTexts}
use Rattle.edf_findings.proofs.notes.one_way.times_and_texts.Given as goal

abbrev pub invariant-loop-place : goal.invariant-loop-place
invariant-loop-place l = AreTimesAndTexts l.have_durations l.notes (take l.place-index l.places) l.found.items
