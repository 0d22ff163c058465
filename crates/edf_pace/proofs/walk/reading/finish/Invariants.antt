use Rattle.std.proofs.Common.{◌≡◌, ◌+◌, ◌-◌, if◌then◌else◌}
use Rattle.edf_stream.specs.records.Readers.{is_current}
use Rattle.edf_pace.specs.walk.Readings.{HasGoneOn}
use Rattle.edf_pace.proofs.walk.reading.finish.Given as goal

abbrev pub invariant-loop-file : goal.invariant-loop-file
invariant-loop-file g l = record {
  goes : HasGoneOn g.S.Source l.fn.reader l.fn.source l.reader l.source;
  failures : g.S.Source.reads l.source ≡ g.S.Source.reads l.fn.source;
}

abbrev pub decreases-loop-file : goal.decreases-loop-file
decreases-loop-file g l = if is_current l.reader.status then 1 + ((l.reader.head).records - l.reader.read) else 0
