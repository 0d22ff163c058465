-- Lanes that a plain order fills, as the code holds them.
use Rattle.std.specs.Prelude.{◌≡◌, ℕ, ℤ, Bool, false, ◌+◌, ◌/◌, ◌<◌, ◌≤◌, ◌≤ℤ◌, nat_le, List, [], ◌∷◌, ◌++◌, length, slice_index_or, take, drop, map, slice_get, Option, Some, None, pos}
use Rattle.std.specs.List.{position}
use Rattle.std.specs.Option.{option_map, option_map_or}
use Rattle.edf_tal.specs.Tals.{TalValue}
use Rattle.edf_stream.specs.annotation.Notes.{NoteValue}
use Rattle.edf_layout.specs.body.PlainOrders.{PlainOrder, OneByOne, ByTime, FilledLane, record_for, tal_of_note, tal_of_start}
use Rattle.edf_layout.specs.declared.plain_lanes.Order.{Order}
use Rattle.edf_layout.specs.declared.plain_lanes.Order.TheVariants as orders
use Rattle.edf_layout.specs.declared.plain_lanes.PlainTal.{PlainTal}
use Rattle.edf_layout.specs.declared.plain_lanes.PlainTal.TheVariants as tals
use Rattle.edf_layout.specs.declared.plain_lanes.PlainLane.{PlainLane}

-- the order
abbrev pub order_view : Order → PlainOrder
order_view orders.OneByOne = OneByOne
order_view orders.ByTime = ByTime

-- both orders put each of these annotations, of which the first is number i, into the same one of the data records with these starts
abbrev pub DoAgree : List ℤ → ℕ → List NoteValue → Type 0
DoAgree starts i [] = Unit {0}
DoAgree starts i (note ∷ notes) = (record_for OneByOne starts i note ≡ record_for ByTime starts i note) × DoAgree starts (i + 1) notes

-- a TAL, by the annotations in order
abbrev pub plain_view : List NoteValue → PlainTal → TalValue
plain_view notes (tals.KeepsTime start) = tal_of_start start
plain_view notes (tals.Annotates n) = option_map_or tal_of_note (slice_get notes n) (tal_of_start (pos 0))

-- the TAL that keeps the time of a data record with this start, if there is one
abbrev pub time_in : Option ℤ → List PlainTal
time_in None = []
time_in (Some start) = tals.KeepsTime start ∷ []

-- the TALs of a lane: that which keeps the time, if there is one, and then one for each annotation
abbrev pub tals_in : PlainLane → List PlainTal
tals_in lane = time_in (option_map (λ start. start.now) lane.start) ++ map tals.Annotates lane.notes.items

-- a lane
abbrev pub lane_view : List NoteValue → PlainLane → FilledLane
lane_view notes lane = record { free = lane.free; tals = map (plain_view notes) (tals_in lane) }

-- the first of some lanes that has so much room
abbrev pub room_in : List PlainLane → ℕ → Option ℕ
room_in lanes need = position (λ (lane : PlainLane). nat_le need lane.free) lanes

-- the first from a place on, or else the first of those before
abbrev pub room_from : List PlainLane → ℕ → ℕ → Option ℕ
room_from lanes at need = option_map_or (λ k. Some (at + k)) (room_in (drop at lanes) need) (room_in (take at lanes) need)

-- the first lane between two places that has so much room, or the second place
pub record IsFirstRoom (lanes : List PlainLane) (need begin end place : ℕ) : Type 0 where
  pub least : begin ≤ place
  pub most : place ≤ end
  pub none : (i : ℕ) (d : PlainLane) → begin ≤ i → i < place → (slice_index_or lanes i d).free < need
  pub some : (d : PlainLane) → place < end → need ≤ (slice_index_or lanes place d).free

-- nothing is known of some blocks of lanes
abbrev pub AreUnknown : List (Option ℕ) → Type 0
AreUnknown full = (i : ℕ) (d : Option ℕ) → i < length full → slice_index_or full i d ≡ None

-- it is known of a block that none of its lanes has so much room
abbrev pub is_known_full : Option ℕ → ℕ → Bool
is_known_full full need = option_map_or (λ least. nat_le least need) full false

-- what is known of each block of 1,024 lanes is so: none of them has so much room
pub record AreFull (lanes : List PlainLane) (full : List (Option ℕ)) : Type 0 where
  pub long : (i : ℕ) → i < length lanes → i / 1024 < length full
  pub none : (i least : ℕ) (d : PlainLane) (o : Option ℕ) → i < length lanes → slice_index_or full (i / 1024) o ≡ Some least
      → (slice_index_or lanes i d).free < least

-- no start is before the one ahead of it
abbrev pub AreRising : List ℤ → Type 0
AreRising starts = (i j : ℕ) (d : ℤ) → i ≤ j → j < length starts → slice_index_or starts i d ≤ℤ slice_index_or starts j d
