use Rattle.std.proofs.Common.{IsTrue, ◌≡◌, ap, ◌∙◌, drop}
use Rattle.edf_fields.specs.in_out.Sources.{Fails}
use Rattle.edf_header.specs.Faults.{header_fault}
use Rattle.edf_header.specs.Heads.{Head, header_bytes}
use Rattle.edf_header.specs.HeadsReading.{head_of}
use Rattle.edf_report.specs.ShowTexts.{head_text, show_text}
use Rattle.edf_report.proofs.ReportFacts.{fault_reported, shown}
use Rattle.edf_report.proofs.show.report.Goals as goal

pub returns-in_ok-header_text-in-Ok-clause-report : goal.returns-in_ok-header_text-in-Ok-clause-report
returns-in_ok-header_text-in-Ok-clause-report g c = λ h.
    shown (g.S.Source.left c.args.source.now) c.in-Ok.header c.in_ok-header_text-in-Ok.field-0.items c.in_ok-header_text-in-Ok.ensures (c.in-Ok.ensures.value h) (c.in-Ok.ensures.passed h)

pub returns-in_ok-header_text-in-Ok-clause-behind : goal.returns-in_ok-header_text-in-Ok-clause-behind
returns-in_ok-header_text-in-Ok-clause-behind g c = λ h.
    let file = g.S.Source.left c.args.source.now in
    c.in-Ok.ensures.behind h ∙ ap (λ (x : Head). drop (header_bytes x) file) (c.in-Ok.ensures.value h)

pub returns-in-Err-clause-report : goal.returns-in-Err-clause-report
unfolding show_text
returns-in-Err-clause-report g c =
    let file = g.S.Source.left c.args.source.now in
    fault_reported (IsTrue (g.S.Source.is_honest c.args.source.now)) (head_text (head_of file)) (header_fault file)
    (Fails (g.S.Source.reads c.args.source.now) (g.S.Source.reads c.read.new.source)) (g.S.Source.reads c.read.new.source ≡ g.S.Source.reads c.args.source.now)
    c.in-Err.stop c.of_stop.result c.of_stop.ensures.report c.in-Err.ensures.stop
