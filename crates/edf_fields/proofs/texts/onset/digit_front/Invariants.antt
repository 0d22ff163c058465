use Rattle.std.proofs.Common.{◌≡◌, ◌<◌, ◌≤◌, ◌-◌, ◌^◌, take}
use Rattle.edf_fields.specs.texts.Numbers.{weight}
use Rattle.edf_fields.specs.texts.OnsetsReading.{AreDigitsBefore}
use Rattle.edf_fields.proofs.texts.onset.digit_front.Given as goal

abbrev pub invariant-loop-count : goal.invariant-loop-count
invariant-loop-count l = record {
  within : l.count ≤ l.most;
  digits : AreDigitsBefore l.count l.text;
  value : l.seconds ≡ weight (take l.count l.text);
  small : l.seconds < 10 ^ l.count;
}

abbrev pub decreases-loop-count : goal.decreases-loop-count
decreases-loop-count l = l.most - l.count
