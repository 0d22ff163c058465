use Rattle.std.proofs.Common.{◌≡◌, ◌++◌}
use Rattle.edf_stream.specs.Views.{notes_left}
use Rattle.edf_findings.specs.Gathered.{hidden_texts}
use Rattle.edf_findings.proofs.notes.both.Notes.take_hidden.Given as goal

abbrev pub invariant-loop-note : goal.invariant-loop-note
invariant-loop-note l = record {
  hidden : l.self.hidden.items ++ hidden_texts l.claim (notes_left l.note-iterator) ≡ l.initial.self.hidden.items ++ hidden_texts l.claim (notes_left l.initial.note-iterator);
  kept : l.self.kept ≡ l.initial.self.kept;
  exported : l.self.exported ≡ l.initial.self.exported;
}
