use Rattle.std.proofs.Common.{rules, of_calls}
use Rattle.std.proofs.lemmas.Fn.{always_returns_same}
use Rattle.std.specs.Cmp.Lexicographic.{slice_cmp}
use Rattle.std.specs.Ordering.{nat_cmp}
use Rattle.edf_heads.proofs.ChannelFacts.{label_there, label_nowhere}
use Rattle.edf_heads.proofs.channel_index.find_label.Goals as goal

pub returns-in-Ok : goal.returns-in-Ok
returns-in-Ok c =
    label_there c.args.sorted.now c.args.label.now c.in-Ok.place _ c.index-sorted-place.result c.index-sorted-place.is (c.in-Ok.ensures.position (λ y. slice_cmp nat_cmp y.signal.now.label c.args.label.now) (always_returns_same _ _ _ (λ a r f k. search (rules, of_calls)))) c.in-Ok.ensures.bound

pub returns-in-Err : goal.returns-in-Err
returns-in-Err c =
    label_nowhere c.args.sorted.now c.args.label.now c.in-Err.field-0 c.requires (c.in-Err.ensures.position (λ y. slice_cmp nat_cmp y.signal.now.label c.args.label.now) (always_returns_same _ _ _ (λ a r f k. search (rules, of_calls))))
