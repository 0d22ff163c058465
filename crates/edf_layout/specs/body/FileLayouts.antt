-- The layout of a file: what its bytes hold besides what it means; and what is written of it.
use Rattle.std.specs.Prelude.{◌≡◌, ℕ, ℤ, ◌+◌, ◌==◌, List, [], ◌∷◌, ◌++◌, length, codes, if◌then◌else◌}
use Rattle.std.specs.Fmt.{decimal}
use Rattle.std.specs.List.{flat_map}
use Rattle.std.specs.List.Sorted.{IsPermutation}
use Rattle.edf_header.specs.Heads.{Head}
use Rattle.edf_stream.specs.annotation.Notes.{NoteValue, HasNotes}
use Rattle.edf_layout.specs.HeadLayouts.{HeadLayout, head_layout_of}
use Rattle.edf_layout.specs.HeadReports.{places_of}
use Rattle.edf_layout.specs.HeadTexts.{head_lines}
use Rattle.edf_layout.specs.OddPlaces.{place_lines}
use Rattle.edf_layout.specs.body.BodyLayouts.{BodyLayout, HasBodyLayout}
use Rattle.edf_layout.specs.body.MeaningLaws.{AreInOrder}
use Rattle.edf_layout.specs.body.OddLanes.{OddLane, tal_lines, odd_lanes, base_order}
use Rattle.edf_layout.specs.body.PlainOrders.{PlainOrder, OneByOne, ByTime, HaveStarts, lane_sizes}

-- of a file: the layout of its header, the plain order that fits best, and the lanes that this order has otherwise;
-- whether several additional subfields are `X` is what the header says, and is written besides
pub record FileLayout : Type 0 where
  pub head : HeadLayout
  pub order : PlainOrder
  pub odd : List OddLane

-- the file has this layout
pub record HasLayout (file : List ℕ) (h : Head) (layout : FileLayout) : Type 0 where
  pub notes : List NoteValue
  pub ordered : List NoteValue
  pub starts : List ℤ
  pub body : BodyLayout
  pub has_notes : HasNotes file h notes
  pub rearranged : IsPermutation notes ordered
  pub in_order : AreInOrder ordered
  pub has_starts : HaveStarts file h starts
  pub has_body : HasBodyLayout file h body
  pub head : layout.head ≡ head_layout_of file h
  pub order : layout.order ≡ base_order ordered (lane_sizes h) starts body
  pub odd : layout.odd ≡ odd_lanes layout.order ordered (lane_sizes h) starts body

-- ---- what is written of it

-- the line of the order
abbrev pub order_line : PlainOrder → List ℕ
order_line OneByOne = codes "annotations one in each data record" ++ (10 ∷ [])
order_line ByTime = codes "annotations by time" ++ (10 ∷ [])

-- where a lane stands; data records and annotation signals count from 0
unfoldable pub lane_line : ℕ → ℕ → List ℕ
lane_line k j = codes "data record " ++ (decimal k ++ (codes " annotation signal " ++ (decimal j ++ (10 ∷ []))))

-- the lines of a lane
unfoldable pub lane_lines : OddLane → List ℕ
lane_lines lane = lane_line lane.data_record lane.number ++ tal_lines lane.tals

-- the last line: whether the file is plain, or how many places aren't
unfoldable pub ending : ℕ → List ℕ
ending n = if n == 0 then codes "PLAIN" ++ (10 ∷ []) else codes "NOT PLAIN " ++ (decimal n ++ (10 ∷ []))

-- how many places of a file aren't plain: lanes, and places of its header
abbrev pub odd_count : FileLayout → Head → ℕ
odd_count layout h = length layout.odd + length (places_of layout.head h)

-- the lines of a layout
unfoldable pub layout_text : FileLayout → Head → List ℕ
layout_text layout h =
    head_lines layout.head
    ++ (order_line layout.order
    ++ (flat_map lane_lines layout.odd ++ (place_lines (places_of layout.head h) ++ ending (odd_count layout h))))
