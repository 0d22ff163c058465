use Rattle.std.proofs.Common.{true, false}
use Rattle.edf_findings.specs.OneWays.{AreTimesAndTexts}
use Rattle.edf_findings.proofs.OneWayFacts.{at-some, without-durations}
use Rattle.edf_findings.proofs.notes.one_way.are_without_durations.Goals as goal

pub returns-in-Some-Some : goal.returns-in-Some-Some
returns-in-Some-Some c = λ yes.
    let kept = at-some c.in_ok-kept.kept (λ listed. AreTimesAndTexts true c.deref.result.now c.deref-2.result.now listed.items) c.in-Some-Some.kept c.in-Some-Some.is-0 c.in_ok-kept.ensures in
    let exported = at-some c.in_ok-exported.exported (λ listed. AreTimesAndTexts false c.deref-3.result.now c.deref-4.result.now listed.items) c.in-Some-Some.exported c.in-Some-Some.is-1 c.in_ok-exported.ensures in
    without-durations c.args.notes.now c.args.only.now c.deref.result.now c.deref-3.result.now c.deref-2.result.now c.deref-4.result.now c.in-Some-Some.kept.items c.in-Some-Some.exported.items
    c.deref.ensures.value c.deref-3.ensures.value c.deref-2.ensures.value c.deref-4.ensures.value kept exported (c.are_same.ensures yes)
