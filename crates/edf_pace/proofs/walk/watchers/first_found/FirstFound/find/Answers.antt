use Rattle.std.proofs.Common.{◌≡◌, ◌∙◌, true, false, not, Option, None, Some, is_some, refl, ap}
use Rattle.edf_samples.specs.declared.earliest.Found.{Found}
use Rattle.edf_pace.proofs.walk.OnwardFacts.{first_next, first_stays, nothing_yet}
use Rattle.edf_pace.proofs.walk.watchers.first_found.FirstFound.find.Goals as goal

one-so-far : (held : Option Found) → is_some held ≡ true → (f : Found) × (held ≡ Some f)
one-so-far None e = absurd (let z : false ≡ true = e in cc)
one-so-far (Some f) e = (f, refl)

pub returns-then-is_none-clause-holds : goal.returns-then-is_none-clause-holds
returns-then-is_none-clause-holds g c = λ o e ho he t from held.
    first_next c.args.frame c.args.original.now c.args.export.now c.args.within o e t c.args.self.now.found c.difference_in-self.result
    c.requires.frame c.args.within.order (nothing_yet c.args.self.now.found (c.is_none.ensures ∙ ap not c.if-is_none.true)) c.difference_in-self.ensures.value ho he from held

pub returns-else-is_none-clause-holds : goal.returns-else-is_none-clause-holds
returns-else-is_none-clause-holds g c = λ o e ho he t from held.
    let one = one-so-far c.args.self.now.found (c.is_none.ensures ∙ ap not c.if-is_none.false) in
    first_stays c.args.frame c.args.original.now c.args.export.now c.args.within o e t c.args.self.now.found one.0
    c.requires.frame c.args.within.order one.1 ho he from held
