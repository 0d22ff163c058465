use Rattle.std.proofs.Common.{◌≡◌, ◌+◌, ◌++◌, map}
use Rattle.edf_stream.specs.Views.{note_value}
use Rattle.edf_check.proofs.parts.series.Exported.take.Given as goal

abbrev pub invariant-loop-note : goal.invariant-loop-note
invariant-loop-note l =
    (map note_value (l.self.notes).items ++ map note_value (l.note-iterator.rest).items ≡ map note_value (l.fn.self.notes).items ++ map note_value (l.fn.notes).items)
    × (l.self.samples ≡ l.fn.self.samples + l.fn.samples)
