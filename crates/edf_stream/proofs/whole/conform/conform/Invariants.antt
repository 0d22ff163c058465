use Rattle.std.proofs.Common.{◌≡◌, ◌-◌, IsTrue}
use Rattle.edf_stream.specs.records.Readers.{IsOpen, StandsIn}
use Rattle.edf_stream.proofs.whole.conform.conform.Given as goal

abbrev pub invariant-loop-reader : goal.invariant-loop-reader
invariant-loop-reader g l =
    IsOpen (l.reader).status
    × (g.S.Source.reads l.source ≡ g.S.Source.reads l.fn.source)
    × (IsTrue (g.S.Source.is_honest l.fn.source) → IsTrue (g.S.Source.is_honest l.source))
    × (IsTrue (g.S.Source.is_honest l.fn.source) → StandsIn l.reader (g.S.Source.left l.source) (g.S.Source.left l.fn.source))

abbrev pub decreases-loop-reader : goal.decreases-loop-reader
decreases-loop-reader g l = ((l.reader).head).records - (l.reader).read
