use Rattle.std.proofs.Common.{◌≡◌, ◌++◌}
use Rattle.edf_stream.specs.Views.{notes_left}
use Rattle.edf_findings.specs.Noting.{onsets_by}
use Rattle.edf_findings.proofs.noted.push_onsets.Given as goal

abbrev pub invariant-loop-note : goal.invariant-loop-note
invariant-loop-note l = l.onsets.items ++ onsets_by l.moved_ps (notes_left l.note-iterator) ≡ l.initial.onsets.items ++ onsets_by l.moved_ps (notes_left l.initial.note-iterator)
