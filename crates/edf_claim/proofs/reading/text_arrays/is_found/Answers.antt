use Rattle.std.proofs.Common.{rules, of_calls}
use Rattle.std.proofs.lemmas.Fn.{always_returns_same}
use Rattle.std.specs.Cmp.Lexicographic.{slice_cmp}
use Rattle.std.specs.Ordering.{nat_cmp}
use Rattle.edf_claim.proofs.SortedFacts.{found_there, found_nowhere}
use Rattle.edf_claim.proofs.reading.text_arrays.is_found.Goals as goal

pub returns-in-Ok : goal.returns-in-Ok
returns-in-Ok c =
    found_there c.args.sorted.now c.args.text.now c.in-Ok.field-0 c.requires (c.in-Ok.ensures.position (λ y. slice_cmp nat_cmp y.items c.args.text.now) (always_returns_same _ _ _ (λ a r f k. search (rules, of_calls)))) c.in-Ok.ensures.bound

pub returns-in-Err : goal.returns-in-Err
returns-in-Err c =
    found_nowhere c.args.sorted.now c.args.text.now c.in-Err.field-0 c.requires (c.in-Err.ensures.position (λ y. slice_cmp nat_cmp y.items c.args.text.now) (always_returns_same _ _ _ (λ a r f k. search (rules, of_calls))))
