use Rattle.std.proofs.Common.{rules, ◌≡◌, ◌∷◌, ◌∙◌, MatchOption, Some, map, sym, subst, true}
use Rattle.std.specs.List.Sorted.{IsPermutation}
use Rattle.std.proofs.lemmas.List.Sorted.{IsPermutation-map}
use Rattle.edf_stream.specs.Views.{note_value}
use Rattle.edf_pace.specs.walk.Watching.{WholeShown}
use Rattle.std.specs.List.{AllByRecursion}
use Rattle.edf_check.specs.Checks.{AreRead}
use Rattle.edf_pace.specs.declared.walk.fault_of.FaultOf.TheVariants as faults
use Rattle.edf_check.specs.parts.Parts.{FollowOneAnother}
use Rattle.edf_check.specs.parts.PartsVerdicts.{IsPartsVerdict}
use Rattle.edf_check.proofs.parts.LeftFacts.{read_all, read_fault}
use Rattle.edf_check.specs.parts.Counted.{AreCounted, IsWhole}
use Rattle.edf_check.proofs.parts.TogetherFacts.{fault_verdict, none_faulty}
use Rattle.edf_check.proofs.of_several.check_series.Goals as goal

pub returns-in-Ok-Err-clause-verdict : goal.returns-in-Ok-Err-clause-verdict
returns-in-Ok-Err-clause-verdict g c = λ ho he.
    let fault = rw c.in-Ok-Err.field-0-is at c.in-Ok-Err.ensures.fault in
    let o = g.O.Source.left c.args.original.now in
    let parts = g.E.Source.left c.args.part.now ∷ map g.E.Source.left c.args.others.now in
    subst (IsPartsVerdict o parts c.args.asked.now.claim.now) (sym c.verdict.ensures) (fault_verdict o parts c.args.asked.now.claim.now (faults.Original c.in-Ok-Err.fault) (fault ho))

pub returns-in-Ok-Err-clause-read : goal.returns-in-Ok-Err-clause-read
returns-in-Ok-Err-clause-read g c = λ ho he.
    let left = g.O.Source.left c.open.new.source in
    let lefts = g.E.Source.left c.args.part.now ∷ map g.E.Source.left c.args.others.now in
    subst (λ v. AllByRecursion (AreRead v.verdict left) lefts) (sym c.verdict.ensures) (read_fault (faults.Original c.in-Ok-Err.fault) left lefts tt)

pub returns-in-Ok-Ok-walk_parts-clause-verdict : goal.returns-in-Ok-Ok-walk_parts-clause-verdict
returns-in-Ok-Ok-walk_parts-clause-verdict g c = λ ho he.
    let stands = rw c.in-Ok-Ok.field-0-is at c.in-Ok-Ok.ensures.stands in
    let honesty = rw c.in-Ok-Ok.field-0-is at c.in-Ok-Ok.ensures.honesty in
    let o = g.O.Source.left c.args.original.now in
    let judged = (rw c.in-Ok-Ok-walk_parts.field-0-is at c.in-Ok-Ok-walk_parts.ensures.judged) (honesty ho) o (stands ho) he in
    c.in_ok-verdict-in-Ok-Ok-walk_parts.ensures.value o (g.E.Source.left c.args.part.now ∷ map g.E.Source.left c.args.others.now) judged

pub returns-in-Ok-Ok-walk_parts-clause-read : goal.returns-in-Ok-Ok-walk_parts-clause-read
returns-in-Ok-Ok-walk_parts-clause-read g c = λ ho he.
    let stands = rw c.in-Ok-Ok.field-0-is at c.in-Ok-Ok.ensures.stands in
    let honesty = rw c.in-Ok-Ok.field-0-is at c.in-Ok-Ok.ensures.honesty in
    let gone = (rw c.in-Ok-Ok-walk_parts.field-0-is at c.in-Ok-Ok-walk_parts.ensures.gone) (honesty ho) (g.O.Source.left c.args.original.now) (stands ho) he in
    read_all c.in_ok-verdict-in-Ok-Ok-walk_parts.verdict.verdict (g.O.Source.left c.walk_parts.new.o) (g.E.Source.left c.walk_parts.new.part ∷ map g.E.Source.left c.walk_parts.new.others) gone.0 gone.1

pub returns-in-Ok-Err-walk_parts-clause-verdict : goal.returns-in-Ok-Err-walk_parts-clause-verdict
returns-in-Ok-Err-walk_parts-clause-verdict g c = λ ho he.
    let stands = rw c.in-Ok-Ok.field-0-is at c.in-Ok-Ok.ensures.stands in
    let honesty = rw c.in-Ok-Ok.field-0-is at c.in-Ok-Ok.ensures.honesty in
    let o = g.O.Source.left c.args.original.now in
    let fault = (rw c.in-Ok-Err-walk_parts.field-0-is at c.in-Ok-Err-walk_parts.ensures.fault) (honesty ho) o (stands ho) he in
    let parts = g.E.Source.left c.args.part.now ∷ map g.E.Source.left c.args.others.now in
    subst (IsPartsVerdict o parts c.args.asked.now.claim.now) (sym c.verdict-in-Ok-Err-walk_parts.ensures) (fault_verdict o parts c.args.asked.now.claim.now c.in-Ok-Err-walk_parts.fault fault.0)

pub returns-in-Ok-Err-walk_parts-clause-read : goal.returns-in-Ok-Err-walk_parts-clause-read
returns-in-Ok-Err-walk_parts-clause-read g c = λ ho he.
    let stands = rw c.in-Ok-Ok.field-0-is at c.in-Ok-Ok.ensures.stands in
    let honesty = rw c.in-Ok-Ok.field-0-is at c.in-Ok-Ok.ensures.honesty in
    let left = g.O.Source.left c.walk_parts.new.o in
    let lefts = g.E.Source.left c.walk_parts.new.part ∷ map g.E.Source.left c.walk_parts.new.others in
    let fault = (rw c.in-Ok-Err-walk_parts.field-0-is at c.in-Ok-Err-walk_parts.ensures.fault) (honesty ho) (g.O.Source.left c.args.original.now) (stands ho) he in
    subst (λ v. AllByRecursion (AreRead v.verdict left) lefts) (sym c.verdict-in-Ok-Err-walk_parts.ensures) (read_fault c.in-Ok-Err-walk_parts.fault left lefts fault.1)

pub returns-in-Ok-Err-clause-counted : goal.returns-in-Ok-Err-clause-counted
returns-in-Ok-Err-clause-counted g c = λ looks ho he all.
    let fault = rw c.in-Ok-Err.field-0-is at c.in-Ok-Err.ensures.fault in
    absurd (none_faulty (g.O.Source.left c.args.original.now) (g.E.Source.left c.args.part.now ∷ map g.E.Source.left c.args.others.now) (faults.Original c.in-Ok-Err.fault) all (fault ho))

pub returns-in-Ok-Ok-walk_parts-clause-counted : goal.returns-in-Ok-Ok-walk_parts-clause-counted
returns-in-Ok-Ok-walk_parts-clause-counted g c = λ looks ho he all.
    let stands = rw c.in-Ok-Ok.field-0-is at c.in-Ok-Ok.ensures.stands in
    let honesty = rw c.in-Ok-Ok.field-0-is at c.in-Ok-Ok.ensures.honesty in
    let o = g.O.Source.left c.args.original.now in
    let parts = g.E.Source.left c.args.part.now ∷ map g.E.Source.left c.args.others.now in
    let counted = (rw c.in-Ok-Ok-walk_parts.field-0-is at c.in-Ok-Ok-walk_parts.ensures.counted) looks (honesty ho) o (stands ho) he in
    let claim = c.args.asked.now.claim.now in
    let whole : WholeShown = record {
      head = (c.walk_parts.new.so_far.original.reader).head;
      kept = map note_value c.conclude_parts.new.kept.items;
      exported = map note_value (c.conclude_parts.new.exported.notes).items;
    } in
    let given : g.L.Onlooker.looks c.walk_parts.new.stage.onlooker.now ≡ true → g.L.Onlooker.shown c.take_original.new.self ≡ Some whole =
    search rules in
    let shown = given (c.walk_parts.ensures.looks ∙ looks) in
    record {
      counted = subst (AreCounted o parts claim (g.L.Onlooker.counted c.args.asked.now.onlooker.now)) (sym c.take_original.ensures.counted) counted.0;
      whole = subst (λ s. MatchOption s ⊥ (λ w. FollowOneAnother parts → IsWhole o parts claim w)) (sym shown)
          (λ follow.
          let all = counted.1 follow in
          record {
            head = all.head;
            kept = subst (λ ns. IsPermutation ns (map note_value c.conclude_parts.new.kept.items)) all.kept_are (IsPermutation-map note_value _ _ c.in_ok-verdict-in-Ok-Ok-walk_parts.ensures.kept);
            exported = subst (λ ns. IsPermutation ns (map note_value (c.conclude_parts.new.exported.notes).items)) all.exported_are (IsPermutation-map note_value _ _ c.in_ok-verdict-in-Ok-Ok-walk_parts.ensures.exported);
          });
    }

pub returns-in-Ok-Err-walk_parts-clause-counted : goal.returns-in-Ok-Err-walk_parts-clause-counted
returns-in-Ok-Err-walk_parts-clause-counted g c = λ looks ho he all.
    let stands = rw c.in-Ok-Ok.field-0-is at c.in-Ok-Ok.ensures.stands in
    let honesty = rw c.in-Ok-Ok.field-0-is at c.in-Ok-Ok.ensures.honesty in
    let o = g.O.Source.left c.args.original.now in
    let fault = (rw c.in-Ok-Err-walk_parts.field-0-is at c.in-Ok-Err-walk_parts.ensures.fault) (honesty ho) o (stands ho) he in
    absurd (none_faulty o (g.E.Source.left c.args.part.now ∷ map g.E.Source.left c.args.others.now) c.in-Ok-Err-walk_parts.fault all fault.0)
