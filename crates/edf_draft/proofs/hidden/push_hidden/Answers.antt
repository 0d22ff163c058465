use Rattle.std.proofs.Common.{◌∷◌, map, sym, subst}
use Rattle.edf_draft.specs.Hidden.{AreLeft}
use Rattle.edf_draft.proofs.HiddenFacts.{one_found}
use Rattle.edf_draft.proofs.hidden.push_hidden.Goals as goal

pub returns-in_ok-push : goal.returns-in_ok-push
returns-in_ok-push c = λ rest left.
    subst (λ items. AreLeft c.args.original.now (c.args.export.now ∷ map (λ r. r.head) c.args.others.now) items rest) (sym c.in_ok-push.ensures.items)
    (one_found c.args.original.now (c.args.export.now ∷ map (λ r. r.head) c.args.others.now) c.args.hidden.now.items rest c.args.which (c.is_hidden_in_all.ensures.0 c.if-is_hidden_in_all.true) left)
