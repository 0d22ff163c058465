-- Annotation lanes as they are kept: by their bytes, or, where they are bare, not at all. EDF+ (2003), "Time keeping of data records".
use Rattle.std.specs.Prelude.{◌≡◌, ℕ, zero, suc, ◌-◌, ℤ, Bool, true, false, List, [], ◌∷◌, ◌++◌, Option, Some, None}
use Rattle.std.specs.Global.{Vec}
use Rattle.edf_tal.specs.Reading.{are_zeros}
use Rattle.edf_layout.specs.body.BodyLayouts.{KeepsTime, PlacedTal}
use Rattle.edf_layout.specs.body.PlainOrders.{plain_tal, tal_bytes, tal_of_start, placed_plainly}
use Rattle.edf_layout.specs.declared.whole.kept_lane.KeptLane.{KeptLane}
use Rattle.edf_layout.specs.declared.whole.kept_lane.KeptLane.TheVariants as lanes

-- the lane is bare: the first one of a data record with this start has the TAL that only keeps the time, spelled plainly, and
-- zeros behind it; each other one zeros alone
abbrev pub IsBare : Bool → ℤ → List ℕ → Type 0
IsBare true start lane = (rest : List ℕ) × (lane ≡ plain_tal (tal_of_start start) ++ 0 ∷ rest) × (are_zeros rest ≡ true)
IsBare false start lane = are_zeros lane ≡ true

-- so many zeros
abbrev pub zeros : ℕ → List ℕ
zeros zero = []
zeros (suc n) = 0 ∷ zeros n

-- the bytes of a bare lane of this size
abbrev pub bare_bytes : Bool → ℤ → ℕ → List ℕ
bare_bytes true start size = plain_tal (tal_of_start start) ++ 0 ∷ zeros (size - tal_bytes (tal_of_start start))
bare_bytes false start size = zeros size

-- the bytes of a lane that isn't bare
abbrev pub own_bytes : Option KeptLane → Option (List ℕ)
own_bytes None = None
own_bytes (Some lanes.Bare) = None
own_bytes (Some (lanes.Bytes bytes)) = Some bytes.items

-- the bytes of a lane of this size
abbrev pub lane_kept : Bool → ℤ → ℕ → KeptLane → List ℕ
lane_kept first start size lanes.Bare = bare_bytes first start size
lane_kept first start size (lanes.Bytes bytes) = bytes.items

-- those of the lanes of a data record, which have these sizes; lanes behind the last one that is kept are bare
abbrev pub record_kept : Bool → ℤ → List ℕ → List KeptLane → List (List ℕ)
record_kept first start [] kept = []
record_kept first start (size ∷ sizes) [] = bare_bytes first start size ∷ record_kept false start sizes []
record_kept first start (size ∷ sizes) (lane ∷ kept) = lane_kept first start size lane ∷ record_kept false start sizes kept

-- those of the lanes of data records with these starts
abbrev pub rows_kept : List ℕ → List ℤ → List (Vec KeptLane) → List (List (List ℕ))
rows_kept sizes [] rows = []
rows_kept sizes (start ∷ starts) [] = []
rows_kept sizes (start ∷ starts) (kept ∷ rows) = record_kept true start sizes kept.items ∷ rows_kept sizes starts rows

-- the layout of the TALs of a bare lane
abbrev pub bare_layout : Bool → List PlacedTal
bare_layout true = placed_plainly (KeepsTime None []) ∷ []
bare_layout false = []
