use Rattle.std.proofs.Common.{◌≡◌, ◌∙◌, ℕ, Option, IfSome, ap, length, refl, rules, subst}
use Rattle.std.specs.List.{All}
use Rattle.edf_pace.specs.walk.Counting.{AreCounted}
use Rattle.edf_pace.specs.walk.Pairs.{AreLaidAlike}
use Rattle.edf_pace.proofs.walk.LayoutFacts.{none_different}
use Rattle.edf_pace.proofs.walk.watchers.CountFacts.{counts_next, nothing_counted, written_back}
use Rattle.edf_pace.proofs.walk.watchers.counts.CountsWatcher.see.Goals as goal

pub returns-then-shows_the_same-clause-holds : goal.returns-then-shows_the_same-clause-holds
returns-then-shows_the_same-clause-holds c = λ o e ho he from before held.
    let r = c.args.original.now in
    let s = c.args.export.now in
    let items = c.args.self.now.channels.items in
    let kept = c.if-shows_the_same.ensures.kept refl in
    let same = c.if-shows_the_same.ensures.alike refl in
    let pairs = c.args.frame.pairs.now in
    let setting = c.args.frame.turn.setting in
    let a = (setting.clock.original).ps in
    let b = (setting.clock.export).ps in
    let t = (c.args.within.from).ps in
    let u = (c.args.within.to).ps in
    let P : Option ℕ → Type 0 = λ room. IfSome room (λ m. All (AreLaidAlike r.head s.head m) pairs) in
    nothing_counted c.args.frame r s c.args.within o e from items c.requires.frame c.args.within.order ho he before
    (none_different (setting.claim).now o e r s same.0 a b t u pairs same.2 (subst P same.1 c.requires.frame.1) c.requires.frame.0 c.requires.uncut kept ho he) held

pub returns-clause-holds : goal.returns-clause-holds
returns-clause-holds c = λ o e ho he from before held.
    let items = c.args.self.now.channels.items in
    let there = c.deref_mut.ensures.value in
    let long : length c.count_window.new.counts ≡ length items = c.count_window.ensures.each ∙ ap length there in
    let len : c.args.self.now.channels.len ≡ length items = search rules in
    written_back c.args.self.now.channels.len items c.count_window.new.counts long len
    ∙ counts_next c.args.frame c.args.original.now c.args.export.now c.args.within o e from items c.count_window.new.counts c.requires.frame c.args.within.order
    (subst (λ ts. AreCounted c.args.original.now c.args.export.now c.args.frame c.args.within ts c.count_window.new.counts) there c.count_window.ensures.value) ho he before held
