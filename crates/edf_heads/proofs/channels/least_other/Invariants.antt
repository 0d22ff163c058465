use Rattle.std.proofs.Common.{◌≡◌, map, find, drop, not}
use Rattle.edf_fields.specs.Lists.{is_one_of}
use Rattle.edf_heads.proofs.channels.least_other.Given as goal

abbrev pub invariant-loop-channel : goal.invariant-loop-channel
invariant-loop-channel l =
    find (λ s. not (is_one_of (map (λ t. t.now) l.labels) s.label)) (map (λ c. c.signal.now) l.sorted)
    ≡ find (λ s. not (is_one_of (map (λ t. t.now) l.labels) s.label)) (map (λ c. c.signal.now) (drop l.channel-index l.sorted))
