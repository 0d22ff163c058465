use Rattle.std.proofs.Common.{◌≡◌, ◌*◌, ◌≤◌, ◌-◌, max, drop}
use Rattle.edf_header.specs.Narrow.{longest_text}
use Rattle.edf_header.proofs.in_columns.column.longest_text.Given as goal

abbrev pub invariant-loop-field : goal.invariant-loop-field
invariant-loop-field l = record {
  left : max l.longest (longest_text l.width (l.count - l.field) (drop (l.width * l.field) l.bytes)) ≡ longest_text l.width l.count l.bytes;
  within : l.longest ≤ l.width;
}
