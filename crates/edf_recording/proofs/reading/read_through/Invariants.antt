-- So far no data record had a fault, as many were read as are counted, and where the first one starts is known.
use Rattle.std.proofs.Common.{◌≡◌, ◌-◌, IsTrue, IfSome, IfNone}
use Rattle.edf_stream.specs.records.Readers.{IsOpen, StandsIn}
use Rattle.edf_stream.specs.times.StartsReading.{start_at}
use Rattle.edf_recording.proofs.reading.read_through.Given as goal

abbrev pub invariant-loop-reader : goal.invariant-loop-reader
invariant-loop-reader g l = record {
  going : IsOpen (l.reader).status;
  counted : l.record ≡ (l.reader).read;
  reads : g.S.Source.reads l.source ≡ g.S.Source.reads l.fn.source;
  honesty : IsTrue (g.S.Source.is_honest l.fn.source) → IsTrue (g.S.Source.is_honest l.source);
  stands : IsTrue (g.S.Source.is_honest l.fn.source) → StandsIn l.reader (g.S.Source.left l.source) (g.S.Source.left l.fn.source);
  unseen : IfNone l.begin ((l.reader).read ≡ 0);
  seen : IfSome l.begin (λ start. IsTrue (g.S.Source.is_honest l.fn.source) → start.ps ≡ start_at (g.S.Source.left l.fn.source) (l.reader).head 0);
}

abbrev pub decreases-loop-reader : goal.decreases-loop-reader
decreases-loop-reader g l = ((l.reader).head).records - (l.reader).read
