use Rattle.std.proofs.Common.{◌≡◌, ◌≤◌, length, take}
use Rattle.edf_fields.specs.Parts.{text_of}
use Rattle.edf_fields.proofs.texts.number.text_len.Given as goal

abbrev pub invariant-loop-end : goal.invariant-loop-end
invariant-loop-end l = record { within : l.end ≤ length l.field; same : text_of (take l.end l.field) ≡ text_of l.field }

abbrev pub decreases-loop-end : goal.decreases-loop-end
decreases-loop-end l = l.end
