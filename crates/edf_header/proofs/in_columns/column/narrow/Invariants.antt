use Rattle.std.proofs.Common.{◌≡◌, ◌*◌, ◌-◌, ◌++◌, drop}
use Rattle.edf_header.specs.Narrow.{narrowed}
use Rattle.edf_header.proofs.in_columns.column.narrow.Given as goal

abbrev pub invariant-loop-field : goal.invariant-loop-field
invariant-loop-field l = l.fronts.items ++ narrowed l.width l.kept (l.count - l.field) (drop (l.width * l.field) l.bytes) ≡ narrowed l.width l.kept l.count l.bytes
