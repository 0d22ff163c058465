use Rattle.std.proofs.Common.{◌≡◌, drop}
use Rattle.edf_fields.specs.fields.SubfieldNamesReading.{named_in}
use Rattle.edf_fields.proofs.fields.which.named_in.Given as goal

abbrev pub invariant-loop-which : goal.invariant-loop-which
invariant-loop-which l = named_in l.all l.name ≡ named_in (drop l.which-index l.all) l.name
