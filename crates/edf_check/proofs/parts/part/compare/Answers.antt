use Rattle.std.proofs.Common.{◌∙◌, ◌<ℤ◌, true, None, map, refl, ap, arith, subst}
use Rattle.std.proofs.lemmas.Int.{ints}
use Rattle.edf_stream.specs.Views.{note_value}
use Rattle.edf_check.specs.parts.Ends.{IsEnded}
use Rattle.edf_pace.specs.walk.Ends.{IsMatched, IsReadThrough, moved_export}
use Rattle.edf_pace.specs.walk.Readings.{beginning}
use Rattle.edf_pace.specs.walk.Shown.{last_end_by}
use Rattle.edf_pace.proofs.ForCallers.{fault_after, fault_of_heads, other_way, begin_is, at_later}
use Rattle.edf_check.specs.parts.Counted.{IsShown}
use Rattle.edf_check.proofs.parts.part.compare.Goals as goal

pub returns-in-Ok-clause-fault : goal.returns-in-Ok-clause-fault
returns-in-Ok-clause-fault g c = λ ho he a b bo se.
    let fault = rw c.in-Ok-Some.field-0-is at c.in-Ok-Some.ensures.fault in
    let found = c.in-Ok.ensures.found ho a bo.there in
    fault_after a (c.args.original.now.reader).head (g.O.Source.left c.export_fault.new.source) b (c.args.export.now.reader).head c.args.shown.now.turn.part c.in-Ok-Some.fault c.in-Ok.first (fault he b se) found.0 found.1

pub returns-in-Ok-Ok-clause-through : goal.returns-in-Ok-Ok-clause-through
returns-in-Ok-Ok-clause-through g c = λ last ho he a b bo se.
    let follows = rw c.in-Ok-None.field-0-is at c.in-Ok-None.ensures.follows in
    let through = rw c.in-Ok-Ok.field-0-is at c.in-Ok-Ok.ensures.through in
    through last ho (follows.honesty he) a b (bo.at c.requires.compared) (at_later c.start.new.reading.reader _ _ b None (moved_export c.args.shown.now.turn) beginning (c.args.shown.now.turn.from).ps (c.args.shown.now.turn.from).low (follows.comes he b se))

pub returns-in-Ok-Ok-clause-passed : goal.returns-in-Ok-Ok-clause-passed
returns-in-Ok-Ok-clause-passed g c = λ ho he a b bo se.
    let turn = c.args.shown.now.turn in
    let follows = rw c.in-Ok-None.field-0-is at c.in-Ok-None.ensures.follows in
    let begins = (rw c.in-Ok-None.field-0-is at c.in-Ok-None.ensures.begins) he b se in
    let ended = rw c.in-Ok-Ok.field-0-is at c.in-Ok-Ok.ensures.ended in
    let later = rw c.in-Ok-Ok.field-0-is at c.in-Ok-Ok.ensures.later in
    let at = follows.comes he b se in
    let begin = begin_is c.args.export.now.reader c.start.new.reading.reader _ _ b None (moved_export turn) beginning follows.head begins.0 begins.1 at in
    let from = c.begins_from.ensures.later c.if-begins_from.true in
    let whole = ended ho (follows.honesty he) a b (bo.at c.requires.compared) (at_later c.start.new.reading.reader _ _ b None (moved_export turn) beginning (turn.from).ps (turn.from).low at) in
    record {
      ended = subst (λ k. IsEnded turn b k (g.E.Source.left c.compare_on.new.e) c.in-Ok-Ok.course.end) follows.head whole;
      early = λ e. absurd (other_way _ e later);
      later = λ e. omega (arith, ints, begin, from);
    }

pub returns-in-Ok-Ok-clause-matched : goal.returns-in-Ok-Ok-clause-matched
returns-in-Ok-Ok-clause-matched g c = λ compared early ho he a b bo se.
    let turn = c.args.shown.now.turn in
    let follows = rw c.in-Ok-None.field-0-is at c.in-Ok-None.ensures.follows in
    let matched = rw c.in-Ok-Ok.field-0-is at c.in-Ok-Ok.ensures.matched in
    let whole = matched compared early ho (follows.honesty he) a b (bo.at compared) (at_later c.start.new.reading.reader _ _ b None (moved_export turn) beginning (turn.from).ps (turn.from).low (follows.comes he b se)) in
    subst (λ k. IsMatched turn a (c.args.original.now.reader).head (map note_value (c.compare_on.new.original.notes).items) b k (map note_value (c.compare_on.new.export.notes).items) c.in-Ok-Ok.course.found) follows.head whole

pub returns-in-Ok-Err-clause-fault : goal.returns-in-Ok-Err-clause-fault
returns-in-Ok-Err-clause-fault g c = λ ho he a b bo se.
    let follows = rw c.in-Ok-None.field-0-is at c.in-Ok-None.ensures.follows in
    let fault = rw c.in-Ok-Err.field-0-is at c.in-Ok-Err.ensures.fault in
    fault_of_heads a _ b _ _ _ _ c.args.shown.now.turn.part c.in-Ok-Err.fault refl follows.head
    (fault ho (follows.honesty he) a b (bo.at c.requires.compared) (at_later c.start.new.reading.reader _ _ b None (moved_export c.args.shown.now.turn) beginning (c.args.shown.now.turn.from).ps (c.args.shown.now.turn.from).low (follows.comes he b se)))

pub returns-in-Ok-Ok-end_both-clause-through : goal.returns-in-Ok-Ok-end_both-clause-through
returns-in-Ok-Ok-end_both-clause-through g c = λ last ho he a b bo se.
    let follows = rw c.in-Ok-None.field-0-is at c.in-Ok-None.ensures.follows in
    let through = rw c.in-Ok-Ok-end_both.field-0-is at c.in-Ok-Ok-end_both.ensures.through in
    (through ho (follows.honesty he) a b bo.there (follows.comes he b se).there).0

pub returns-in-Ok-Ok-end_both-clause-passed : goal.returns-in-Ok-Ok-end_both-clause-passed
returns-in-Ok-Ok-end_both-clause-passed g c = λ ho he a b bo se.
    let turn = c.args.shown.now.turn in
    let follows = rw c.in-Ok-None.field-0-is at c.in-Ok-None.ensures.follows in
    let begins = (rw c.in-Ok-None.field-0-is at c.in-Ok-None.ensures.begins) he b se in
    let through = rw c.in-Ok-Ok-end_both.field-0-is at c.in-Ok-Ok-end_both.ensures.through in
    let at = follows.comes he b se in
    let both = through ho (follows.honesty he) a b bo.there at.there in
    let begin = begin_is c.args.export.now.reader c.start.new.reading.reader _ _ b None (moved_export turn) beginning follows.head begins.0 begins.1 at in
    let early = c.begins_from.ensures.early c.if-begins_from.false begins.0 in
    record {
      ended = record {
        through = subst (λ k. IsReadThrough b k (g.E.Source.left c.end_both.new.e)) follows.head both.1;
        end_is = both.2 ∙ ap (λ k. last_end_by b k (moved_export turn)) follows.head;
      };
      early = λ e. subst (λ z. z <ℤ (turn.from).ps) begin early;
      later = λ e. absurd (other_way true refl e);
    }

pub returns-in-Ok-Err-end_both-clause-fault : goal.returns-in-Ok-Err-end_both-clause-fault
returns-in-Ok-Err-end_both-clause-fault g c = λ ho he a b bo se.
    let follows = rw c.in-Ok-None.field-0-is at c.in-Ok-None.ensures.follows in
    let fault = rw c.in-Ok-Err-end_both.field-0-is at c.in-Ok-Err-end_both.ensures.fault in
    fault_of_heads a _ b _ _ _ _ c.args.shown.now.turn.part c.in-Ok-Err-end_both.fault refl follows.head (fault ho (follows.honesty he) a b bo.there (follows.comes he b se).there)

pub returns-in-Ok-Ok-clause-counted : goal.returns-in-Ok-Ok-clause-counted
returns-in-Ok-Ok-clause-counted g c = λ looks compared early ho he a b bo se.
    let turn = c.args.shown.now.turn in
    let follows = rw c.in-Ok-None.field-0-is at c.in-Ok-None.ensures.follows in
    let counted = rw c.in-Ok-Ok.field-0-is at c.in-Ok-Ok.ensures.counted in
    let whole = counted looks ho (follows.honesty he) a b (bo.at compared) (at_later c.start.new.reading.reader _ _ b None (moved_export turn) beginning (turn.from).ps (turn.from).low (follows.comes he b se)) in
    let h = (c.args.original.now.reader).head in
    let ms = map note_value (c.compare_on.new.export.notes).items in
    subst (λ k. IsShown turn a h c.compare_on.new.original b k ms (g.L.Onlooker.counts c.compare_on.new.shown.onlooker.now)) follows.head whole
