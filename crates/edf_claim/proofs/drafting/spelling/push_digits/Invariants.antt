-- the digits so far stand behind the text, and those that are left come next
use Rattle.std.proofs.Common.{◌≡◌, ◌++◌, ◌≤◌}
use Rattle.edf_claim.specs.Spellings.{last_digits}
use Rattle.edf_claim.proofs.drafting.spelling.push_digits.Given as goal

abbrev pub invariant-loop-left : goal.invariant-loop-left
invariant-loop-left l = record {
  within : l.places ≤ 12;
  digits : l.text.items ++ last_digits l.places l.left ≡ l.initial.text.items ++ last_digits 12 l.ps;
}

abbrev pub decreases-loop-left : goal.decreases-loop-left
decreases-loop-left l = l.places
