use Rattle.std.proofs.Common.{◌≡◌, ◌+◌, Option, refl, subst, arith}
use Rattle.std.proofs.lemmas.Nat.{ones-le}
use Rattle.std.specs.Int.RustNames.{count_ones}
use Rattle.edf_samples.specs.Others.{AreOthers}
use Rattle.edf_samples.specs.declared.counts.places.Places.{Places}
use Rattle.edf_samples.proofs.PlaceCountFacts.{few_pass, first_ones, more_ones, no_more}
use Rattle.edf_samples.proofs.counts.blocks.with_others.Goals as goal

pub returns-then-others-eq0 : goal.returns-then-others-eq0
returns-then-others-eq0 c = λ test size le e h. no_more test c.args.number size c.args.others c.args.places c.if-others-eq0.true e h

pub returns-in-Some : goal.returns-in-Some
returns-in-Some c = λ test size le e h.
    let before = subst (λ (o : Option Places). AreOthers test c.args.number o) c.in-Some.is h in
    let few = few_pass test c.args.number c.in-Some.before before in
    let ones = ones-le 64 c.args.others c.ranges.others.fits in
    let room = c.requires in
    let sum = c.saturating_add.ensures in
    let counts : c.saturating_add.result ≡ (c.in-Some.before).count + count_ones c.args.others = omega (arith, few, ones, room, sum) in
    more_ones test c.args.number size c.args.others c.saturating_add.result _ c.in-Some.before le c.if-others-eq0.false e counts refl before

pub returns-in-None : goal.returns-in-None
returns-in-None c = λ test size le e h.
    first_ones test c.args.number size c.args.others _ _ le c.if-others-eq0.false e refl refl (subst (λ (o : Option Places). AreOthers test c.args.number o) c.in-None.is h)
