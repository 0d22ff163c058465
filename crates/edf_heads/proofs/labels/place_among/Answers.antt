use Rattle.std.proofs.Common.{rules, of_calls}
use Rattle.std.proofs.lemmas.Fn.{always_returns_same}
use Rattle.std.specs.Cmp.Lexicographic.{slice_cmp}
use Rattle.std.specs.Ordering.{nat_cmp}
use Rattle.edf_heads.proofs.LabelFacts.{place_there, place_nowhere}
use Rattle.edf_heads.proofs.labels.place_among.Goals as goal

pub returns-in-Ok : goal.returns-in-Ok
returns-in-Ok c =
    place_there c.args.sorted.now c.args.label.now c.in-Ok.place (c.in-Ok.ensures.position (λ y. slice_cmp nat_cmp y.now c.args.label.now) (always_returns_same _ _ _ (λ a r f k. search (rules, of_calls)))) c.in-Ok.ensures.bound

pub returns-in-Err : goal.returns-in-Err
returns-in-Err c =
    place_nowhere c.args.sorted.now c.args.label.now c.in-Err.field-0 c.requires (c.in-Err.ensures.position (λ y. slice_cmp nat_cmp y.now c.args.label.now) (always_returns_same _ _ _ (λ a r f k. search (rules, of_calls))))
