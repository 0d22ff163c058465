use Rattle.std.proofs.Common.{◌≡◌, ◌∙◌, true, sym, subst}
use Rattle.edf_pace.specs.walk.Counting.{AreCounts}
use Rattle.edf_pace.specs.walk.Watching.{two_files}
use Rattle.edf_pace.proofs.walk.OnwardFacts.{other_way}
use Rattle.edf_pace.proofs.walk.watchers.first_found.FirstFoundWatcher.see.Goals as goal

pub returns-then-looks-clause-holds : goal.returns-then-looks-clause-holds
returns-then-looks-clause-holds g c = λ o e ho he t from held. (
  c.find.ensures.holds o e ho he t from held.0,
  λ looks.
      let same = c.find.ensures.same in
      let files = two_files o c.args.original.now.head e c.args.export.now.head in
      let yes = sym c.look.ensures.looks ∙ looks in
      let before = held.1 (subst (λ b. g.L.Onlooker.looks b.now ≡ true) same yes) in
      c.look.ensures.holds yes o e ho he t from (subst (λ b. AreCounts (g.L.Onlooker.counts b.now) c.args.frame files t c.args.within.from.ps) (sym same) before),
)

pub returns-else-looks-clause-holds : goal.returns-else-looks-clause-holds
returns-else-looks-clause-holds g c = λ o e ho he t from held. (
  c.find.ensures.holds o e ho he t from held.0,
  λ looks. absurd (other_way _ looks (sym c.looks.ensures ∙ c.if-looks.false)),
)
