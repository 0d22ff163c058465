use Rattle.std.proofs.Common.{◌≡◌, Some, IfOk, IfErr, IsTrue, subst, sym}
use Rattle.std.proofs.lemmas.Result.{IfOk-weaker, IfErr-weaker}
use Rattle.edf_fields.specs.in_out.Sources.{Fails}
use Rattle.edf_stream.specs.Faults.{file_fault}
use Rattle.edf_draft.specs.Answers.{BothStop, IsReadOf}
use Rattle.edf_draft.specs.FirstLines.{anew}
use Rattle.edf_draft.proofs.AnswerFacts.{faultless}
use Rattle.edf_draft.proofs.answer.answer_of.Goals as goal

pub returns-in-Err-clause-answer : goal.returns-in-Err-clause-answer
returns-in-Err-clause-answer g c =
    let again = anew (g.R.Recordings.are_honest c.args.again.now) (g.R.Recordings.original c.args.again.now) (g.R.Recordings.export c.args.again.now) in
    let o = g.O.Source.left c.args.original.now in
    let e = g.E.Source.left c.args.export.now in
    let fault = subst (λ r. IfErr r (λ f. IsTrue (g.O.Source.is_honest c.args.original.now) → file_fault o ≡ Some f)) c.in-Err.is c.in_ok-recorded.ensures.fault in
    IfOk-weaker c.fault_answer.result _ _ (λ a says h k. says again o e (fault h)) c.fault_answer.ensures.answer

pub returns-in-Err-clause-first : goal.returns-in-Err-clause-first
returns-in-Err-clause-first g c =
    let again = anew (g.R.Recordings.are_honest c.args.again.now) (g.R.Recordings.original c.args.again.now) (g.R.Recordings.export c.args.again.now) in
    IfOk-weaker c.fault_answer.result _ _ (λ a says. says again) c.fault_answer.ensures.first

pub returns-in-Err-2-clause-first : goal.returns-in-Err-2-clause-first
returns-in-Err-2-clause-first g c =
    let again = anew (g.R.Recordings.are_honest c.args.again.now) (g.R.Recordings.original c.args.again.now) (g.R.Recordings.export c.args.again.now) in
    IfOk-weaker c.fault_answer-in-Err-2.result _ _ (λ a says. says again) c.fault_answer-in-Err-2.ensures.first

pub returns-in-Err-2-clause-answer : goal.returns-in-Err-2-clause-answer
returns-in-Err-2-clause-answer g c =
    let again = anew (g.R.Recordings.are_honest c.args.again.now) (g.R.Recordings.original c.args.again.now) (g.R.Recordings.export c.args.again.now) in
    let o = g.O.Source.left c.args.original.now in
    let e = g.E.Source.left c.args.export.now in
    let read = subst (λ r. IfOk r (λ x. IsTrue (g.O.Source.is_honest c.args.original.now) → IsReadOf o x)) c.in-Ok.is c.in_ok-recorded.ensures.read in
    let fault = subst (λ r. IfErr r (λ f. IsTrue (g.E.Source.is_honest c.args.export.now) → file_fault e ≡ Some f)) c.in-Err-2.is c.in_ok-recorded-2.ensures.fault in
    IfOk-weaker c.fault_answer-in-Err-2.result _ _ (λ a says h k. says again o e (faultless o c.in-Ok.recorded (read h), fault k)) c.fault_answer-in-Err-2.ensures.answer

pub returns-clause-answer : goal.returns-clause-answer
returns-clause-answer g c =
    let o = g.O.Source.left c.args.original.now in
    let e = g.E.Source.left c.args.export.now in
    let first = subst (λ r. IfOk r (λ x. IsTrue (g.O.Source.is_honest c.args.original.now) → IsReadOf o x)) c.in-Ok.is c.in_ok-recorded.ensures.read in
    let second = subst (λ r. IfOk r (λ x. IsTrue (g.E.Source.is_honest c.args.export.now) → IsReadOf e x)) c.in-Ok-2.is c.in_ok-recorded-2.ensures.read in
    IfOk-weaker c.draft_answer.result _ _ (λ a says h k. says o e (first h) (second k)) c.draft_answer.ensures.answer

pub returns-clause-stop : goal.returns-clause-stop
returns-clause-stop g c =
    IfErr-weaker c.draft_answer.result _ _
    (λ stop is. subst (λ s. BothStop (Fails (g.O.Source.reads c.args.original.now) (g.O.Source.reads c.read_side.new.source))
    (Fails (g.E.Source.reads c.args.export.now) (g.E.Source.reads c.read_side-2.new.source))
    ((g.O.Source.reads c.read_side.new.source ≡ g.O.Source.reads c.args.original.now) × (g.E.Source.reads c.read_side-2.new.source ≡ g.E.Source.reads c.args.export.now)) s)
    (sym is) (c.in_ok-recorded.ensures.failures, c.in_ok-recorded-2.ensures.failures)) c.draft_answer.ensures.stop
