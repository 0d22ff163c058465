use Rattle.std.proofs.Common.{◌≡◌, nat_lt, length, map, drop}
use Rattle.std.specs.List.{list_all}
use Rattle.edf_claim.proofs.reading.remove.are_some.Given as goal

abbrev pub invariant-loop-text : goal.invariant-loop-text
invariant-loop-text l =
    list_all (λ t. nat_lt 0 (length t)) (map (λ t. t.now) l.texts) ≡ list_all (λ t. nat_lt 0 (length t)) (map (λ t. t.now) (drop l.text-index l.texts))
