use Rattle.std.proofs.Common.{rules, of_calls}
use Rattle.std.proofs.lemmas.Fn.{always_returns_same}
use Rattle.std.specs.Cmp.Lexicographic.{slice_cmp}
use Rattle.std.specs.Ordering.{nat_cmp}
use Rattle.edf_claim.proofs.PrefixFacts.{begins_there, begins_nowhere_else}
use Rattle.edf_claim.proofs.kept.prefixes.begins_with_one.Goals as goal

pub returns-in-Ok : goal.returns-in-Ok
returns-in-Ok c =
    begins_there c.args.shortest.now c.args.text.now c.in-Ok.field-0
    (c.in-Ok.ensures.position (λ y. slice_cmp nat_cmp y.items c.args.text.now) (always_returns_same _ _ _ (λ a r f k. search (rules, of_calls)))) c.in-Ok.ensures.bound

pub returns-in-Err : goal.returns-in-Err
returns-in-Err c =
    begins_nowhere_else c.args.shortest.now c.args.text.now c.in-Err.behind c.is_behind_last.result c.requires.order c.requires.apart
    (c.in-Err.ensures.position (λ y. slice_cmp nat_cmp y.items c.args.text.now) (always_returns_same _ _ _ (λ a r f k. search (rules, of_calls)))) c.in-Err.ensures.bound c.is_behind_last.ensures
