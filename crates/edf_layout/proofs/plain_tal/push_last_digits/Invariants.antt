use Rattle.std.proofs.Common.{◌≡◌, ◌++◌, ◌<◌, ◌≤◌, ◌^◌}
use Rattle.edf_layout.specs.body.PlainOrders.{last_digits}
use Rattle.edf_layout.proofs.plain_tal.push_last_digits.Given as goal

abbrev pub invariant-loop-places : goal.invariant-loop-places
invariant-loop-places l = record {
  few : l.places ≤ 12;
  below : l.rest < 10 ^ l.places;
  text : l.text.items ++ last_digits l.places l.rest ≡ l.initial.text.items ++ last_digits 12 l.number;
}

abbrev pub decreases-loop-places : goal.decreases-loop-places
decreases-loop-places l = l.places
