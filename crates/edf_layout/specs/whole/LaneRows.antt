-- The layout of annotation lanes, as the code holds them.
use Rattle.std.specs.Prelude.{◌≡◌, ℕ, ℤ, Bool, ◌+◌, ◌==◌, ◌≤◌, List, [], ◌∷◌, ◌++◌, length, map, slice_get}
use Rattle.std.specs.Option.{option_map_or}
use Rattle.edf_tal.specs.Tals.{TalValue}
use Rattle.edf_stream.specs.annotation.Notes.{NoteValue}
use Rattle.edf_layout.specs.body.BodyLayouts.{PlacedTal, RecordLayout, BodyLayout}
use Rattle.edf_layout.specs.body.LaidTals.{laid_view}
use Rattle.edf_layout.specs.body.LaneLayouts.{IsLaidLane}
use Rattle.edf_layout.specs.body.LaneReading.{contents_by}
use Rattle.edf_layout.specs.body.OddLanes.{OddLane as OddLaneValue, odd_lanes, base_order}
use Rattle.edf_layout.specs.body.PlainLanes.{plain_view, tals_in}
use Rattle.edf_layout.specs.body.PlainOrders.{PlainOrder, placed_plainly}
use Rattle.edf_layout.specs.declared.plain_lanes.PlainLane.{PlainLane}
use Rattle.edf_layout.specs.declared.plain_lanes.PlainTal.{PlainTal}
use Rattle.edf_layout.specs.declared.whole.odd_lanes.OddLane.{OddLane}

-- the lane of these bytes has this layout, where its first TAL keeps the time or doesn't, in a file with these
-- annotations
pub record HasLaneLayout (notes : List NoteValue) (keeps : Bool) (lane : List ℕ) (laid : List PlacedTal) : Type 0 where
  pub tals : List TalValue
  pub spelled : IsLaidLane lane tals (map (λ (placed : PlacedTal). placed.spelling) laid)
  pub said : map (λ (placed : PlacedTal). placed.content) laid ≡ contents_by keeps notes tals

-- there are as many lanes as layouts, and each has the layout at its place; the first of them is lane j of its data
-- record, whose lane 0 keeps the time
abbrev pub HaveLaneLayouts : List NoteValue → ℕ → List (List ℕ) → RecordLayout → Type 0
HaveLaneLayouts notes j [] [] = Unit {0}
HaveLaneLayouts notes j (lane ∷ lanes) (laid ∷ layout) = HasLaneLayout notes (j == 0) lane laid × HaveLaneLayouts notes (j + 1) lanes layout
HaveLaneLayouts notes j lanes layout = ⊥

-- there are as many data records as layouts, and the lanes of each have the layout at its place
abbrev pub HaveRowLayouts : List NoteValue → List (List (List ℕ)) → BodyLayout → Type 0
HaveRowLayouts notes [] [] = Unit {0}
HaveRowLayouts notes (lanes ∷ rows) (layout ∷ body) = HaveLaneLayouts notes 0 lanes layout × HaveRowLayouts notes rows body
HaveRowLayouts notes rows body = ⊥

-- the layout of the TALs that a plain order puts into a lane
abbrev pub plainly_laid : List NoteValue → Bool → List TalValue → List PlacedTal
plainly_laid notes keeps tals = map placed_plainly (contents_by keeps notes tals)

-- what stands in the lane of this number of those that a plain order fills; nothing where there is no such lane
abbrev pub tals_at : List PlainLane → ℕ → List PlainTal
tals_at lanes number = option_map_or tals_in (slice_get lanes number) []

-- the TALs in a lane that a plain order fills
abbrev pub plain_tals : List NoteValue → PlainLane → List TalValue
plain_tals notes lane = map (plain_view notes) (tals_in lane)

-- a lane that a plain order has otherwise
abbrev pub odd_view : OddLane → OddLaneValue
odd_view lane = record { data_record = lane.data_record; number = lane.number; tals = map laid_view lane.tals.items }

-- the first of some: all of them, where they are `most` at the most
pub record AreFirst {X : Type 0} (most : ℕ) (first whole : List X) : Type 0 where
  pub rest : List X
  pub told : first ++ rest ≡ whole
  pub ends : length first ≤ most → rest ≡ []

-- the order that fits data records with this layout best, and the lanes that it has otherwise
pub record IsLaidBody (notes : List NoteValue) (sizes : List ℕ) (starts : List ℤ) (layout : BodyLayout) (order : PlainOrder) (odd : List OddLaneValue) : Type 0 where
  pub order_is : order ≡ base_order notes sizes starts layout
  pub odd_is : odd ≡ odd_lanes order notes sizes starts layout
