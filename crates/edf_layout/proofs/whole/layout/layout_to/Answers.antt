use Rattle.std.proofs.Common.{IsTrue}
use Rattle.edf_layout.proofs.lanes.KeptLayoutFacts.{put-told, part-told}
use Rattle.edf_layout.proofs.whole.layout.layout_to.Goals as goal

pub returns-clause-written : goal.returns-clause-written
returns-clause-written g c =
    let r = c.in_ok-report.report in
    put-told (g.S.Source.left c.args.source.now) r.text.items (g.K.Sink.held c.args.sink.now) (g.K.Sink.held c.put.new.sink) r.outcome
    (IsTrue (g.S.Source.is_honest c.args.source.now)) (IsTrue (g.K.Sink.is_honest c.args.sink.now)) c.put.result c.put.ensures.written c.in_ok-report.ensures.report

pub returns-clause-part : goal.returns-clause-part
returns-clause-part g c =
    let r = c.in_ok-report.report in
    part-told (g.S.Source.left c.args.source.now) r.text.items (g.K.Sink.held c.args.sink.now) (g.K.Sink.held c.put.new.sink) r.outcome
    (IsTrue (g.S.Source.is_honest c.args.source.now)) (IsTrue (g.K.Sink.is_honest c.args.sink.now)) c.put.result c.put.ensures.part c.in_ok-report.ensures.report
