use Rattle.std.proofs.Common.{IsTrue, ◌≡◌}
use Rattle.edf_fields.specs.in_out.Sources.{Fails}
use Rattle.edf_read.proofs.ReadFacts.{fault_read, faultless}
use Rattle.edf_read.proofs.read.report.Goals as goal

pub returns-in_ok-text_of-in-Ok-clause-report : goal.returns-in_ok-text_of-in-Ok-clause-report
returns-in_ok-text_of-in-Ok-clause-report g c = λ h. faultless (g.S.Source.left c.args.source.now) _ (c.in-Ok.ensures.conforms h)

pub returns-in-Err-clause-report : goal.returns-in-Err-clause-report
returns-in-Err-clause-report g c =
    fault_read (IsTrue (g.S.Source.is_honest c.args.source.now)) (g.S.Source.left c.args.source.now)
    (Fails (g.S.Source.reads c.args.source.now) (g.S.Source.reads c.read_through.new.source)) (g.S.Source.reads c.read_through.new.source ≡ g.S.Source.reads c.args.source.now)
    c.in-Err.stop c.of_stop.result c.of_stop.ensures.report c.in-Err.ensures.stop
