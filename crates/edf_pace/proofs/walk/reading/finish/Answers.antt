use Rattle.std.proofs.Common.{◌∙◌, None, sym, subst}
use Rattle.edf_header.specs.Heads.{Head}
use Rattle.edf_pace.specs.walk.Ends.{IsFinished}
use Rattle.edf_pace.proofs.walk.PassFacts.{there_next, current_open, ended_is}
use Rattle.edf_pace.proofs.walk.reading.finish.Goals as goal

pub loop-file-preserved : goal.loop-file-preserved
loop-file-preserved g c =
    let inv = c.loop-file.invariant in
    let ok = c.in-Ok-None.ensures in
    let none = c.in-Ok-None.field-0-is in
    let head = c.go_on.ensures.head in
    let current = sym c.has_current.ensures ∙ c.loop-file-test.true in
    let going = rw none at ok.going in
    let failures = ok.failures in
    let honesty = rw none at ok.honesty in
    let comes = rw none at ok.comes in
    record {
      goes = record {
        head = head ∙ (inv.goes).head;
        going = going;
        honesty = λ h. honesty ((inv.goes).honesty h);
        comes = λ h file at. there_next c.loop-file.reader c.go_on.new.reader (g.S.Source.left c.go_on.new.source) file going head
            (comes ((inv.goes).honesty h) file (((inv.goes).comes h file at).stands (current_open (c.loop-file.reader).status current)));
      };
      failures = failures ∙ inv.failures;
    }

pub returns-clause-read : goal.returns-clause-read
returns-clause-read g c = λ h file at.
    let goes = (c.loop-file.invariant).goes in
    let past = sym c.has_current.ensures ∙ c.loop-file-test.false in
    let done = (goes.comes h file at).ended (ended_is (c.loop-file.reader).status goes.going past) in
    let P : Head → Type 0 = λ k. IsFinished file k (g.S.Source.left c.loop-file.source) (c.loop-file.reader).ended None in
    subst P goes.head (record { fault = done.0; conforms = done.1; gone = done.2 }, done.4)
