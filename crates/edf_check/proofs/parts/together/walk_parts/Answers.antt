use Rattle.std.proofs.Common.{rules, ◌<◌, ◌∷◌, ◌∙◌, arith, length, map, refl, subst}
use Rattle.edf_check.specs.parts.Counted.{AreCounted}
use Rattle.edf_check.specs.parts.Together.{HaveFault}
use Rattle.edf_check.proofs.parts.TogetherFacts.{counted_together, first_of_all, found_together, gathered_together}
use Rattle.edf_pace.proofs.ForCallers.{fault_is}
use Rattle.edf_check.proofs.parts.together.walk_parts.Goals as goal

pub returns-in-Ok-Some-clause-fault : goal.returns-in-Ok-Some-clause-fault
returns-in-Ok-Some-clause-fault g c = λ ho a so he.
    let fault = rw c.in-Ok-Some.field-0-is at c.in-Ok-Some.ensures.fault in
    (fault_is c.args.so_far.now.original.reader (g.O.Source.left c.args.o.now) a so ∙ fault ho a so, tt)

pub returns-in-Ok-Ok-clause-judged : goal.returns-in-Ok-Ok-clause-judged
returns-in-Ok-Ok-clause-judged g c = λ ho a so he.
    let follows = rw c.in-Ok-None.field-0-is at c.in-Ok-None.ensures.follows in
    let at = follows.comes ho a so in
    let read = (rw c.in-Ok-Ok.field-0-is at c.in-Ok-Ok.ensures.read) (follows.honesty ho) a (record { there = at.there; at = λ is. at }) he in
    let parts = g.E.Source.left c.args.part.now ∷ map g.E.Source.left c.args.others.now in
    let some : 0 < length parts = omega arith in
    let setting = c.requires.setting in
    found_together _ a _ (c.args.so_far.now.original.reader).head _ _ parts _ c.args.so_far.now.exported _ _ read refl refl refl (follows.head ∙ (so.passed).head) (so.passed).head setting some c.requires.none.1 c.requires.none.0

pub returns-in-Ok-Ok-clause-gone : goal.returns-in-Ok-Ok-clause-gone
returns-in-Ok-Ok-clause-gone g c = λ ho a so he.
    let follows = rw c.in-Ok-None.field-0-is at c.in-Ok-None.ensures.follows in
    let at = follows.comes ho a so in
    let read = (rw c.in-Ok-Ok.field-0-is at c.in-Ok-Ok.ensures.read) (follows.honesty ho) a (record { there = at.there; at = λ is. at }) he in
    ((read.through).gone, read.gone)

pub returns-in-Ok-Err-clause-fault : goal.returns-in-Ok-Err-clause-fault
returns-in-Ok-Err-clause-fault g c = λ ho a so he.
    let follows = rw c.in-Ok-None.field-0-is at c.in-Ok-None.ensures.follows in
    let at = follows.comes ho a so in
    let left = g.O.Source.left c.read_parts.new.o in
    let parts = g.E.Source.left c.args.part.now ∷ map g.E.Source.left c.args.others.now in
    let h = (c.args.so_far.now.original.reader).head in
    let fault = (rw c.in-Ok-Err.field-0-is at c.in-Ok-Err.ensures.fault) (follows.honesty ho) a (record { there = at.there; at = λ is. at }) he in
    first_of_all a h left parts c.in-Ok-Err.fault (fault_is c.args.so_far.now.original.reader (g.O.Source.left c.args.o.now) a so)
    (subst (λ k. HaveFault 0 a k left parts c.in-Ok-Err.fault) follows.head fault)

pub returns-in-Ok-Ok-clause-counted : goal.returns-in-Ok-Ok-clause-counted
returns-in-Ok-Ok-clause-counted g c = λ looks ho a so he.
    let follows = rw c.in-Ok-None.field-0-is at c.in-Ok-None.ensures.follows in
    let at = follows.comes ho a so in
    let read = (rw c.in-Ok-Ok.field-0-is at c.in-Ok-Ok.ensures.read) (follows.honesty ho) a (record { there = at.there; at = λ is. at }) he in
    let counted = rw c.in-Ok-Ok.field-0-is at c.in-Ok-Ok.ensures.counted in
    let parts = g.E.Source.left c.args.part.now ∷ map g.E.Source.left c.args.others.now in
    let setting = c.requires.setting in (
      subst (λ x. AreCounted a parts (c.args.stage.now.setting.claim).now (g.L.Onlooker.counted c.args.stage.now.onlooker.now) (g.L.Onlooker.counted x)) (search rules)
          (counted_together _ a _ (c.args.so_far.now.original.reader).head _ _ parts _ c.args.so_far.now.exported _ _ _ _ read refl (follows.head ∙ (so.passed).head) (so.passed).head setting (λ co. (counted looks (follows.honesty ho) a (record { there = at.there; at = λ is. at }) he co).0)),
      λ follow. gathered_together _ a _ (c.args.so_far.now.original.reader).head _ _ parts _ c.args.so_far.now.exported _ _ _ read refl refl (follows.head ∙ (so.passed).head) (so.passed).head setting c.requires.none.1 follow
          (λ early co. (counted looks (follows.honesty ho) a (record { there = at.there; at = λ is. at }) he co).1 refl early),
    )
