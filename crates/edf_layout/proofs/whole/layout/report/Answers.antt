use Rattle.std.proofs.Common.{IsTrue, ◌≡◌}
use Rattle.edf_fields.specs.in_out.Sources.{Fails}
use Rattle.edf_layout.proofs.lanes.KeptLayoutFacts.{file-laid, fault-told}
use Rattle.edf_layout.proofs.whole.layout.report.Goals as goal

pub returns-in_ok-laid_out-in-Ok-clause-report : goal.returns-in_ok-laid_out-in-Ok-clause-report
returns-in_ok-laid_out-in-Ok-clause-report g c = λ h.
    let r = c.in_ok-laid_out-in-Ok.field-0 in
    file-laid (g.S.Source.left c.args.source.now) c.in-Ok.file.head.front.items c.in-Ok.file.head.columns.items c.in-Ok.file.head.header c.in-Ok.file.body r.text.items r.outcome
    c.in-Ok.ensures.sound (c.in-Ok.ensures.file h) c.in_ok-laid_out-in-Ok.ensures

pub returns-in-Err-clause-report : goal.returns-in-Err-clause-report
returns-in-Err-clause-report g c =
    fault-told (IsTrue (g.S.Source.is_honest c.args.source.now)) (g.S.Source.left c.args.source.now)
    (Fails (g.S.Source.reads c.args.source.now) (g.S.Source.reads c.read_file.new.source)) (g.S.Source.reads c.read_file.new.source ≡ g.S.Source.reads c.args.source.now)
    c.in-Err.stop c.of_stop.result c.of_stop.ensures.report c.in-Err.ensures.stop
