use Rattle.std.proofs.Common.{IsTrue, ◌≡◌}
use Rattle.edf_fields.specs.in_out.Sources.{Fails}
use Rattle.edf_layout.proofs.ReportFacts.{laid-out, fault-reported}
use Rattle.edf_layout.proofs.head_layout.report.Goals as goal

pub returns-in_ok-laid_out-in-Ok-clause-report : goal.returns-in_ok-laid_out-in-Ok-clause-report
returns-in_ok-laid_out-in-Ok-clause-report g c = λ h.
    let r = c.in_ok-laid_out-in-Ok.field-0 in
    laid-out (g.S.Source.left c.args.source.now) (g.S.Source.left c.read_head.new.source) c.in-Ok.file.front.items c.in-Ok.file.columns.items c.in-Ok.file.header r.text.items r.outcome
    (c.in-Ok.ensures.header h) c.in_ok-laid_out-in-Ok.ensures.text c.in_ok-laid_out-in-Ok.ensures.outcome

pub returns-in-Err-clause-report : goal.returns-in-Err-clause-report
returns-in-Err-clause-report g c =
    fault-reported (IsTrue (g.S.Source.is_honest c.args.source.now)) (g.S.Source.left c.args.source.now)
    (Fails (g.S.Source.reads c.args.source.now) (g.S.Source.reads c.read_head.new.source)) (g.S.Source.reads c.read_head.new.source ≡ g.S.Source.reads c.args.source.now)
    c.in-Err.stop c.of_stop.result c.of_stop.ensures.report c.in-Err.ensures.stop
