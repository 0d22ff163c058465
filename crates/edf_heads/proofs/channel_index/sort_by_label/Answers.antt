use Rattle.std.proofs.Common.{rules, of_calls}
use Rattle.std.proofs.lemmas.Cmp.{nat_list_cmp_total}
use Rattle.std.proofs.lemmas.Fn.{always_returns_same}
use Rattle.std.proofs.lemmas.List.Sorted.{ranks_by}
use Rattle.std.specs.Cmp.Lexicographic.{slice_cmp}
use Rattle.std.specs.Ordering.{nat_cmp, is_lt}
use Rattle.edf_heads.specs.declared.channel_index.Channel.{Channel}
use Rattle.edf_heads.proofs.channel_index.sort_by_label.Goals as goal

pub returns-clause-order : goal.returns-clause-order
returns-clause-order c =
    c.sort_unstable_by.ensures.sorted (λ x y. is_lt (slice_cmp nat_cmp x.signal.now.label y.signal.now.label)) (ranks_by nat_list_cmp_total (λ (s : Channel). s.signal.now.label)) (always_returns_same _ _ _ (λ a r f k. search (rules, of_calls)))
