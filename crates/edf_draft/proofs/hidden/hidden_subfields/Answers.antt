use Rattle.std.proofs.Common.{◌∷◌, map, arith, drop, length, subst, sym, ◌≡◌, ◌+◌, ◌<◌, []}
use Rattle.std.proofs.lemmas.List.{drop_all, drop_more}
use Rattle.edf_draft.specs.Hidden.{AreLeft}
use Rattle.edf_draft.proofs.HiddenFacts.{all_left, none_left}
use Rattle.edf_draft.proofs.hidden.hidden_subfields.Goals as goal

pub loop-which-init : goal.loop-which-init
loop-which-init c =
    subst (λ items. AreLeft c.args.original.now (c.args.export.now ∷ map (λ r. r.head) c.args.others.now) items c.all-which-items.result.now) (sym c.new-hidden.ensures.items)
    (subst (λ all. AreLeft c.args.original.now (c.args.export.now ∷ map (λ r. r.head) c.args.others.now) [] all) (sym c.all-which-items.ensures) (all_left c.args.original.now (c.args.export.now ∷ map (λ r. r.head) c.args.others.now)))

pub loop-which-preserved : goal.loop-which-preserved
loop-which-preserved c =
    let within : c.loop-which.which-index < length c.all-which-items.result.now = omega (arith, c.loop-which-test.true) in
    c.in_ok-push_hidden.ensures (drop (c.loop-which.which-index + 1) c.all-which-items.result.now)
    (subst (λ rest. AreLeft c.args.original.now (c.args.export.now ∷ map (λ r. r.head) c.args.others.now) c.loop-which.hidden.items rest)
    (drop_more c.all-which-items.result.now c.loop-which.which-index _ within) c.loop-which.invariant)

pub returns : goal.returns
returns c =
    let ended : drop c.loop-which.which-index c.all-which-items.result.now ≡ [] = drop_all c.loop-which.which-index c.all-which-items.result.now c.loop-which-test.false in
    none_left c.args.original.now (c.args.export.now ∷ map (λ r. r.head) c.args.others.now) c.loop-which.hidden.items
    (subst (λ rest. AreLeft c.args.original.now (c.args.export.now ∷ map (λ r. r.head) c.args.others.now) c.loop-which.hidden.items rest) ended c.loop-which.invariant)
