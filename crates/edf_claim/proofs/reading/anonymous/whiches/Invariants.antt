use Rattle.std.proofs.Common.{◌≡◌, map, drop, option_map, ◌++◌}
use Rattle.edf_claim.specs.Reading.{whiches_of}
use Rattle.edf_claim.proofs.reading.anonymous.whiches.Given as goal

abbrev pub invariant-loop-name : goal.invariant-loop-name
invariant-loop-name l = whiches_of (map (λ t. t.now) l.names) ≡ option_map (λ ws. l.found.items ++ ws) (whiches_of (map (λ t. t.now) (drop l.name-index l.names)))
