-- What the code holds of the two parts of a header, once their tests have passed.
use Rattle.std.specs.Prelude.{◌≡◌, ℕ, ◌*◌, ◌≤◌, List, None, length}
use Rattle.edf_fields.specs.Tests.{first}
use Rattle.edf_header.specs.declared.fixed_part.fixed.Fixed.{Fixed}
use Rattle.edf_header.specs.declared.in_columns.judge_columns.Body.{Body}
use Rattle.edf_header.specs.Faults.{fixed_fault, columns_tests}
use Rattle.edf_header.specs.Heads.{samples_together}
use Rattle.edf_header.specs.HeadsReading.{signals_in}
use Rattle.edf_header.specs.Judged.{SaysStart, SaysExtent}
use Rattle.edf_header.specs.signals.Lanes.{annotation_places}
use Rattle.edf_header.specs.Narrow.{WideColumns}

-- of the fixed part
pub record IsFixed (front : List ℕ) (v : Fixed) : Type 0 where
  pub passed : fixed_fault front ≡ None
  pub whole : 256 ≤ length front
  pub starts : SaysStart front v.start
  pub extends : SaysExtent front v.extent

-- of the columns
pub record IsBody (columns : WideColumns) (v : Body) : Type 0 where
  pub passed : first (columns_tests columns.signals columns.bytes) ≡ None
  pub signals_are : v.signals.items ≡ signals_in columns.signals columns.bytes
  pub record_bytes_are : v.record_bytes ≡ 2 * samples_together v.signals.items
  pub small : v.record_bytes ≤ 16777216
  pub annotations_are : v.annotations.items ≡ annotation_places v.signals.items
