use Rattle.std.proofs.Common.{◌≡◌, ◌≤◌, ◌-◌, ◌++◌, drop, replicate}
use Rattle.edf_layout.specs.Spaces.{spaces_of}
use Rattle.edf_layout.proofs.spaces.spaces_of.Given as goal

-- what was found so far, the spaces since the last other byte, and what is left
abbrev pub invariant-loop-at : goal.invariant-loop-at
invariant-loop-at l = record {
  within : l.from ≤ l.at;
  run : drop l.from l.text ≡ replicate (l.at - l.from) 32 ++ drop l.at l.text;
  found : l.counts.items ++ spaces_of (drop l.from l.text) ≡ spaces_of l.text;
}
