use Rattle.std.proofs.Common.{◌≡◌, drop}
use Rattle.edf_fields.specs.Tests.{first}
use Rattle.edf_header.specs.Faults.{fixed_missing}
use Rattle.edf_header.proofs.fixed_part.fixed.missing_in.Given as goal

abbrev pub invariant-loop-field : goal.invariant-loop-field
invariant-loop-field l = first (fixed_missing l.fields l.len) ≡ first (fixed_missing (drop l.field-index l.fields) l.len)
