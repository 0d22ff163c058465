use Rattle.std.proofs.Common.{Fits, Option, rules, subst, w64}
use Rattle.edf_samples.specs.declared.counts.places.Places.{Places}
use Rattle.edf_samples.specs.Others.{AreOthers}
use Rattle.edf_samples.proofs.FrontFacts.{changes_taken, no_changes_taken}
use Rattle.edf_samples.proofs.counts.front.take_changes.Goals as goal

pub returns-in-Some : goal.returns-in-Some
returns-in-Some c =
    let p = c.in-Some.places in
    let few : Fits w64 p.count = search rules in
    λ test n h. changes_taken c.args.tally.now c.add_changes.new.changed c.keep_first_change.new.first c.args.x c.args.y p few test n
    (subst (λ (o : Option Places). AreOthers test n o) c.in-Some.is h) (c.add_changes.ensures test n (subst (λ (o : Option Places). AreOthers test n o) c.in-Some.is h)) c.keep_first_change.ensures

pub returns-in-None : goal.returns-in-None
returns-in-None c = λ test n h. no_changes_taken c.args.tally.now c.args.x c.args.y test n (subst (λ (o : Option Places). AreOthers test n o) c.in-None.is h)
