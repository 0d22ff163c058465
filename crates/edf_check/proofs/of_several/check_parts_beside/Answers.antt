use Rattle.std.proofs.Common.{List, sym, subst}
use Rattle.edf_check.specs.parts.Counted.{AreCountedOfAll, looked_on}
use Rattle.edf_check.proofs.of_several.check_parts_beside.Goals as goal

pub returns-in-Ok-clause-counted : goal.returns-in-Ok-clause-counted
returns-in-Ok-clause-counted g c =
    let asked = c.args.asked.now in
    let P : List _ → Type 0 = λ all. AreCountedOfAll g.O.Source g.E.Source c.args.original.now all asked.claim.now (g.L.Onlooker.looks asked.onlooker.now) (looked_on (g.L.Onlooker.counted asked.onlooker.now) (g.L.Onlooker.counted c.check_series.new.asked.onlooker.now) (g.L.Onlooker.shown c.check_series.new.asked.onlooker.now)) in
    subst P (sym c.in-Some.ensures.cases.0) c.in-Ok.ensures.counted
