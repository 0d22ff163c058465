-- the bytes so far stand behind the text
use Rattle.std.proofs.Common.{◌≡◌, ◌++◌, take}
use Rattle.std.specs.List.{flat_map}
use Rattle.edf_claim.specs.Spellings.{said_byte}
use Rattle.edf_claim.proofs.drafting.spelling.push_bytes.Given as goal

abbrev pub invariant-loop-byte : goal.invariant-loop-byte
invariant-loop-byte l = l.text.items ≡ l.initial.text.items ++ flat_map said_byte (take l.byte-index l.bytes)
