use Rattle.std.proofs.Common.{◌≡◌, ◌++◌, take}
use Rattle.std.specs.List.{flat_map}
use Rattle.edf_verdict.specs.Quotes.{quoted_byte}
use Rattle.edf_verdict.proofs.quote.push_bytes.Given as goal

-- the bytes so far stand behind the line
abbrev pub invariant-loop-byte : goal.invariant-loop-byte
invariant-loop-byte l = l.line.items ≡ l.initial.line.items ++ flat_map quoted_byte (take l.byte-index l.text)
