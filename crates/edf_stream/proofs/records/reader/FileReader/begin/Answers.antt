use Rattle.edf_stream.proofs.records.RecordFacts.{starts_off}
use Rattle.edf_stream.proofs.records.reader.FileReader.begin.Goals as goal

pub returns-clause-stands : goal.returns-clause-stands
returns-clause-stands g c = λ honest.
    let read = c.in_ok-header.ensures in
    let off = starts_off (g.S.Source.left c.args.source.now) c.in_ok-header.header c.new.result.ended_ps c.new.result.notes (g.S.Source.left c.read.new.source)
    (read.value honest) (read.passed honest) (read.conforms honest) (read.whole honest) (read.behind honest) c.new.ensures.ended c.new.ensures.notes in
    record { passed = off.0; stands = off.1 }
