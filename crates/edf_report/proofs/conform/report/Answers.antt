use Rattle.std.proofs.Common.{IsTrue, ◌≡◌}
use Rattle.edf_fields.specs.in_out.Sources.{Fails}
use Rattle.edf_header.specs.HeadsReading.{head_of}
use Rattle.edf_stream.specs.Faults.{file_fault}
use Rattle.edf_report.specs.ConformTexts.{file_counts, conform_text}
use Rattle.edf_report.proofs.ReportFacts.{fault_reported, counted}
use Rattle.edf_report.proofs.conform.report.Goals as goal

pub returns-in_ok-counts_line-in-Ok-clause-report : goal.returns-in_ok-counts_line-in-Ok-clause-report
returns-in_ok-counts_line-in-Ok-clause-report g c = λ h.
    counted (g.S.Source.left c.args.source.now) (g.S.Source.left c.conform.new.source) c.in-Ok.summary c.in_ok-counts_line-in-Ok.field-0.items c.in_ok-counts_line-in-Ok.ensures (c.in-Ok.ensures.conforms h)

pub returns-in-Err-clause-report : goal.returns-in-Err-clause-report
unfolding conform_text
returns-in-Err-clause-report g c =
    let file = g.S.Source.left c.args.source.now in
    fault_reported (IsTrue (g.S.Source.is_honest c.args.source.now)) (file_counts file (head_of file)) (file_fault file)
    (Fails (g.S.Source.reads c.args.source.now) (g.S.Source.reads c.conform.new.source)) (g.S.Source.reads c.conform.new.source ≡ g.S.Source.reads c.args.source.now)
    c.in-Err.stop c.of_stop.result c.of_stop.ensures.report c.in-Err.ensures.stop
