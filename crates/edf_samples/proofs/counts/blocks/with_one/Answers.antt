use Rattle.std.proofs.Common.{◌≡◌, ◌∙◌, ◌+◌, Option, sym, subst, arith}
use Rattle.edf_samples.specs.Others.{AreOthers}
use Rattle.edf_samples.specs.declared.counts.places.Places.{Places}
use Rattle.edf_samples.proofs.PlaceCountFacts.{few_pass, first_one, more_one, no_one}
use Rattle.edf_samples.proofs.counts.blocks.with_one.Goals as goal

pub returns-then-not-differs : goal.returns-then-not-differs
returns-then-not-differs c = λ test e h. no_one test c.args.number c.args.places (sym e ∙ c.if-not-differs.true) h

pub returns-in-Some : goal.returns-in-Some
returns-in-Some c = λ test e h.
    let before = subst (λ (o : Option Places). AreOthers test c.args.number o) c.in-Some.is h in
    let few = few_pass test c.args.number c.in-Some.before before in
    let room = c.requires in
    let sum = c.saturating_add.ensures in
    let counts : c.saturating_add.result ≡ (c.in-Some.before).count + 1 = omega (arith, few, room, sum) in
    more_one test c.args.number c.saturating_add.result c.in-Some.before (sym e ∙ c.if-not-differs.false) counts before

pub returns-in-None : goal.returns-in-None
returns-in-None c = λ test e h. first_one test c.args.number (sym e ∙ c.if-not-differs.false) (subst (λ (o : Option Places). AreOthers test c.args.number o) c.in-None.is h)
