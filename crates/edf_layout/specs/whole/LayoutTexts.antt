-- What is written of the layout of a file.
use Rattle.std.specs.Prelude.{◌≡◌, ℕ, List, length, Option, None, Some, IsTrue}
use Rattle.edf_fields.specs.declared.faults.fault.Fault.{Fault}
use Rattle.edf_fields.specs.declared.in_out.source.Source.{Ghosts}
use Rattle.edf_header.specs.Heads.{Head}
use Rattle.edf_header.specs.HeadsReading.{head_of}
use Rattle.edf_report.specs.Reports.{fault_line}
use Rattle.edf_stream.specs.Faults.{file_fault}
use Rattle.edf_verdict.specs.declared.outcome.Outcome.{Outcome}
use Rattle.edf_verdict.specs.declared.outcome.Outcome.TheVariants.{No}
use Rattle.edf_layout.specs.HeadLayouts.{layout_in}
use Rattle.edf_layout.specs.HeadReports.{plain_outcome}
use Rattle.edf_layout.specs.body.BodyLayouts.{BodyLayout}
use Rattle.edf_layout.specs.body.FileLayouts.{FileLayout, HasLayout, odd_count, layout_text}
use Rattle.edf_layout.specs.body.OddLanes.{OddLane, odd_lanes, base_order}
use Rattle.edf_layout.specs.body.PlainOrders.{PlainOrder, lane_sizes}
use Rattle.edf_layout.specs.declared.whole.file_body.FileBody.{FileBody}
use Rattle.edf_layout.specs.whole.FileBodies.{notes_kept}

-- the text and the outcome are those of this layout
pub record IsTextOf (layout : FileLayout) (h : Head) (text : List ℕ) (outcome : Outcome) : Type 0 where
  pub text_is : text ≡ layout_text layout h
  pub outcome_is : outcome ≡ plain_outcome (odd_count layout h)

-- the text is that of the layout of the file, and the outcome Yes exactly where no place isn't plain
pub record IsLaidOut (file : List ℕ) (h : Head) (text : List ℕ) (outcome : Outcome) : Type 0 where
  pub layout : FileLayout
  pub has_layout : HasLayout file h layout
  pub is_text : IsTextOf layout h text outcome

-- this is written where the file has this fault, or none
abbrev pub IsWritten : Option Fault → List ℕ → List ℕ → Outcome → Type 0
IsWritten None file text outcome = IsLaidOut file (head_of file) text outcome
IsWritten (Some fault) file text outcome = (text ≡ fault_line fault) × (outcome ≡ No)

-- this is the text on a file, and its outcome: the lines of its layout, or that of its first fault
abbrev pub IsLayoutText : List ℕ → List ℕ → Outcome → Type 0
IsLayoutText file text outcome = IsWritten (file_fault file) file text outcome

-- this is the text of what an honest source has left, and its outcome
abbrev pub IsLayoutOf : {S : Type 0} → Ghosts S → S → List ℕ → Outcome → Type 0
IsLayoutOf source s text outcome = IsTrue (source.is_honest s) → IsLayoutText (source.left s) text outcome

-- ---- the same by what is kept of a file

-- the plain order that fits data records with this layout best
abbrev pub order_kept : Head → FileBody → BodyLayout → PlainOrder
order_kept h body layout = base_order (notes_kept body) (lane_sizes h) body.starts.items layout

-- the layout of a file with this fixed part, these columns and this header, with this order and these odd lanes
unfoldable pub layout_made : List ℕ → List ℕ → Head → PlainOrder → List OddLane → FileLayout
layout_made front columns h order odd = record { head = layout_in front (length h.signals) columns; order = order; odd = odd }

-- the same of a file whose data records have this layout
unfoldable pub layout_kept : List ℕ → List ℕ → Head → FileBody → BodyLayout → FileLayout
layout_kept front columns h body layout =
    layout_made front columns h (order_kept h body layout)
    (odd_lanes (order_kept h body layout) (notes_kept body) (lane_sizes h) body.starts.items layout)
