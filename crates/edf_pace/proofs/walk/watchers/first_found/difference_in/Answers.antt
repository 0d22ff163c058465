use Rattle.std.proofs.Common.{ℕ, Option, IfSome, refl, subst}
use Rattle.std.specs.List.{All}
use Rattle.edf_pace.specs.walk.Pairs.{AreLaidAlike}
use Rattle.edf_pace.proofs.walk.LayoutFacts.{none_different}
use Rattle.edf_pace.proofs.walk.watchers.first_found.difference_in.Goals as goal

pub returns-then-shows_the_same-clause-value : goal.returns-then-shows_the_same-clause-value
returns-then-shows_the_same-clause-value c = λ o e ho he.
    let r = c.args.original.now in
    let s = c.args.export.now in
    let kept = c.if-shows_the_same.ensures.kept refl in
    let same = c.if-shows_the_same.ensures.alike refl in
    let n = same.0 in
    let pairs = c.args.frame.pairs.now in
    let setting = c.args.frame.turn.setting in
    let P : Option ℕ → Type 0 = λ room. IfSome room (λ m. All (AreLaidAlike r.head s.head m) pairs) in
    none_different (setting.claim).now o e r s n (setting.clock.original).ps (setting.clock.export).ps (c.args.within.from).ps (c.args.within.to).ps pairs
    same.2 (subst P same.1 c.requires.frame.1) c.requires.frame.0 c.requires.uncut kept ho he
