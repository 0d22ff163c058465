use Rattle.std.proofs.Common.{◌≡◌, ◌++◌, ◌-◌, ℕ, List, IsTrue}
use Rattle.edf_stream.specs.records.Readers.{IsOpen, StandsIn}
use Rattle.edf_report.specs.NotesTexts.{note_lines_before}
use Rattle.edf_report.proofs.notes.put_records.Given as goal

-- the annotations of the data records so far are written
abbrev pub invariant-loop-lines : goal.invariant-loop-lines
invariant-loop-lines g l = record {
  going : IsOpen (l.reader).status;
  head : (l.reader).head ≡ (l.initial.reader).head;
  read : g.S.Source.reads l.source ≡ g.S.Source.reads l.fn.source;
  failures : g.K.Sink.failures l.sink ≡ g.K.Sink.failures l.fn.sink;
  honesty : IsTrue (g.S.Source.is_honest l.fn.source) → IsTrue (g.S.Source.is_honest l.source);
  honest_sink : IsTrue (g.K.Sink.is_honest l.fn.sink) → IsTrue (g.K.Sink.is_honest l.sink);
  stands : IsTrue (g.S.Source.is_honest l.fn.source) → (file : List ℕ) → StandsIn l.initial.reader (g.S.Source.left l.fn.source) file → StandsIn l.reader (g.S.Source.left l.source) file;
  written : IsTrue (g.S.Source.is_honest l.fn.source) → IsTrue (g.K.Sink.is_honest l.fn.sink) → (file : List ℕ) → StandsIn l.initial.reader (g.S.Source.left l.fn.source) file
      → g.K.Sink.held l.sink ≡ g.K.Sink.held l.fn.sink ++ note_lines_before file (l.initial.reader).head (l.reader).read;
}

abbrev pub decreases-loop-lines : goal.decreases-loop-lines
decreases-loop-lines g l = ((l.reader).head).records - (l.reader).read
