use Rattle.std.proofs.Common.{◌≡◌, ◌∙◌, None, refl, ap, arith, subst}
use Rattle.std.proofs.lemmas.Int.{ints}
use Rattle.edf_pace.specs.walk.Ends.{IsReadThrough, moved_export}
use Rattle.edf_pace.specs.walk.Gathered.{gathered_in}
use Rattle.edf_pace.specs.walk.Readings.{beginning}
use Rattle.edf_pace.specs.walk.Shown.{last_end_by}
use Rattle.edf_check.proofs.parts.CompareFacts.{not-false, not-true}
use Rattle.edf_pace.proofs.ForCallers.{fault_of_heads, begin_is, at_first, begins_with_one, there_next}
use Rattle.edf_check.proofs.parts.part.pass_over.Goals as goal

pub returns-in-Ok-Some-go_on-clause-fault : goal.returns-in-Ok-Some-go_on-clause-fault
returns-in-Ok-Some-go_on-clause-fault g c = λ ho he a b ao se.
    let read = rw c.in-Ok-None.field-0-is at c.in-Ok-None.ensures.read in
    let fault = rw c.in-Ok-Some-go_on.field-0-is at c.in-Ok-Some-go_on.ensures.fault in
    let there = (read ho a ao).0 in
    (refl, there.fault, fault he b se, there.gone)

pub returns-in-Ok-Ok-clause-through : goal.returns-in-Ok-Ok-clause-through
returns-in-Ok-Ok-clause-through g c = λ ho he a b ao se.
    let goes = rw c.in-Ok-None.field-0-is at c.in-Ok-None.ensures.goes in
    let going = rw c.in-Ok-None-go_on.field-0-is at c.in-Ok-None-go_on.ensures.going in
    let honesty = rw c.in-Ok-None-go_on.field-0-is at c.in-Ok-None-go_on.ensures.honesty in
    let comes = rw c.in-Ok-None-go_on.field-0-is at c.in-Ok-None-go_on.ensures.comes in
    let through = rw c.in-Ok-Ok.field-0-is at c.in-Ok-Ok.ensures.through in
    let there = there_next c.args.export.now c.go_on.new.reader (g.E.Source.left c.go_on.new.source) b going c.go_on.ensures.head (comes he b se) in
    subst (λ h. IsReadThrough a h (g.O.Source.left c.end_both.new.o)) goes.head (through (goes.honesty ho) (honesty he) a b (goes.comes ho a ao) there).0

pub returns-in-Ok-Ok-clause-passed : goal.returns-in-Ok-Ok-clause-passed
returns-in-Ok-Ok-clause-passed g c = λ ho he a b ao se.
    let turn = c.args.turn in
    let by = moved_export turn in
    let new = c.go_on.new.reader in
    let left = g.E.Source.left c.go_on.new.source in
    let head = c.go_on.ensures.head in
    let goes = rw c.in-Ok-None.field-0-is at c.in-Ok-None.ensures.goes in
    let going = rw c.in-Ok-None-go_on.field-0-is at c.in-Ok-None-go_on.ensures.going in
    let count = rw c.in-Ok-None-go_on.field-0-is at c.in-Ok-None-go_on.ensures.count in
    let honesty = rw c.in-Ok-None-go_on.field-0-is at c.in-Ok-None-go_on.ensures.honesty in
    let comes = (rw c.in-Ok-None-go_on.field-0-is at c.in-Ok-None-go_on.ensures.comes) he b se in
    let through = rw c.in-Ok-Ok.field-0-is at c.in-Ok-Ok.ensures.through in
    let first = (c.requires.export).1 in
    let at = at_first c.args.export.now new left (gathered_in None by new) b None by beginning first going head count refl comes in
    let both = through (goes.honesty ho) (honesty he) a b (goes.comes ho a ao) at.there in
    let current = begins_with_one c.args.export.now new left b first going comes in
    let one = (count current).0 in
    let begin = begin_is c.args.export.now new left (gathered_in None by new) b None by beginning head current (let z : new.read ≡ 1 = omega (arith, one, first) in z) at in
    record {
      ended = record {
        through = subst (λ k. IsReadThrough b k (g.E.Source.left c.end_both.new.e)) head both.1;
        end_is = both.2 ∙ ap (λ k. last_end_by b k by) head;
      };
      early = λ e. (let early = c.begins_from-is_early.ensures.early (not-true c.begins_from-is_early.result e) current in omega (arith, ints, begin, early));
      later = λ e. (let later = c.begins_from-is_early.ensures.later (not-false c.begins_from-is_early.result e) in omega (arith, ints, begin, later));
    }

pub returns-in-Ok-Err-clause-fault : goal.returns-in-Ok-Err-clause-fault
returns-in-Ok-Err-clause-fault g c = λ ho he a b ao se.
    let goes = rw c.in-Ok-None.field-0-is at c.in-Ok-None.ensures.goes in
    let going = rw c.in-Ok-None-go_on.field-0-is at c.in-Ok-None-go_on.ensures.going in
    let honesty = rw c.in-Ok-None-go_on.field-0-is at c.in-Ok-None-go_on.ensures.honesty in
    let comes = rw c.in-Ok-None-go_on.field-0-is at c.in-Ok-None-go_on.ensures.comes in
    let fault = rw c.in-Ok-Err.field-0-is at c.in-Ok-Err.ensures.fault in
    let there = there_next c.args.export.now c.go_on.new.reader (g.E.Source.left c.go_on.new.source) b going c.go_on.ensures.head (comes he b se) in
    fault_of_heads a _ b _ _ _ _ c.args.turn.part c.in-Ok-Err.fault goes.head c.go_on.ensures.head (fault (goes.honesty ho) (honesty he) a b (goes.comes ho a ao) there)
