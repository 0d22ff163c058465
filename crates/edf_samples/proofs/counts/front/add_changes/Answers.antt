use Rattle.std.proofs.Common.{◌∙◌, ap, Fits, Option, Some, rules, subst, w64}
use Rattle.edf_samples.specs.declared.counts.places.Places.{Places}
use Rattle.edf_samples.specs.Others.{AreOthers}
use Rattle.edf_samples.proofs.FrontFacts.{changes_joined, no_changes_joined}
use Rattle.edf_samples.proofs.counts.front.add_changes.Goals as goal

pub returns-in-Some : goal.returns-in-Some
returns-in-Some c =
    let p = c.in-Some.places in
    let a = c.args.changed.now in
    let few : Fits w64 p.count = search rules in
    let fits : Fits w64 a.count = search rules in
    λ test n h. ap (λ o. record { count = c.saturating_add-changed.result; first = o; last = Some c.change_at.result }) c.keep_first_change.ensures
    ∙ changes_joined a c.args.x c.args.y c.args.strides.here c.args.strides.there p c.saturating_add-changed.result c.change_at.result fits few c.saturating_add-changed.ensures c.change_at.ensures test n
    (subst (λ (o : Option Places). AreOthers test n o) c.in-Some.is h)

pub returns-in-None : goal.returns-in-None
returns-in-None c = λ test n h. no_changes_joined c.args.changed.now c.args.x c.args.y c.args.strides.here c.args.strides.there test n (subst (λ (o : Option Places). AreOthers test n o) c.in-None.is h)
