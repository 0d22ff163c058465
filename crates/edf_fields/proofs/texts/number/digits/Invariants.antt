use Rattle.std.proofs.Common.{◌≡◌, ℕ, ◌<◌, ◌≤◌, ◌^◌, take, get_or}
use Rattle.edf_fields.specs.texts.Numbers.{weight}
use Rattle.edf_fields.proofs.texts.number.digits.Given as goal

abbrev pub invariant-loop-byte : goal.invariant-loop-byte
invariant-loop-byte l = record {
  digits : (k : ℕ) → k < l.byte-index → (48 ≤ get_or l.bytes k 0) × (get_or l.bytes k 0 ≤ 57);
  value : l.value ≡ weight (take l.byte-index l.bytes);
  small : l.value < 10 ^ l.byte-index;
}
