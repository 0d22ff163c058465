-- Plain bodies are one, and the plain spelling of a TAL is one.
use Rattle.std.specs.Prelude.{◌≡◌, ◌↔◌, ◌<◌, ◌^◌, ◌+◌, ◌*◌, ◌≤ℤ◌, ℕ, ℤ, pos, unsigned_abs, nat_le, List, [], ◌∷◌, ◌++◌, length, map, None, IfSome, IsTrue}
use Rattle.std.specs.List.{All, flat_map, list_any}
use Rattle.std.specs.List.Sorted.{IsPermutation}
use Rattle.edf_header.specs.Heads.{Head}
use Rattle.edf_tal.specs.Tals.{TalValue, IsText}
use Rattle.edf_stream.specs.Conforming.{Conforms}
use Rattle.edf_stream.specs.annotation.Notes.{NoteValue}
use Rattle.edf_layout.specs.body.BodyLaws.{AreBytes, HaveSameSamples}
use Rattle.edf_layout.specs.HeadLaws.{SayTheSame}
use Rattle.edf_layout.specs.HeadLayouts.{head_layout_of}
use Rattle.edf_layout.specs.body.LaneLayouts.{IsLaidTal}
use Rattle.edf_layout.specs.body.MeaningLaws.{HaveSameNotes}
use Rattle.edf_layout.specs.body.PlainOrders.{PlainOrder, FilledLane, IsPlainBody, plain_tal, tal_bytes, tal_of_note, tal_of_start, put_from, record_for, bare_record, plain_lanes}

-- two files that conform, that say the same, with headers of one layout and bodies of one plain order, are
-- the same bytes
abbrev pub PlainBodiesAreOne : Type 0
PlainBodiesAreOne = (file other : List ℕ) (h g : Head) (order : PlainOrder) → AreBytes file → AreBytes other →
    Conforms file h → Conforms other g → SayTheSame h g → head_layout_of file h ≡ head_layout_of other g →
    HaveSameSamples file h other g → HaveSameNotes file h other g →
    IsPlainBody order file h → IsPlainBody order other g → file ≡ other

-- a file that conforms is in one plain order at the most
abbrev pub OneOrderAtMost : Type 0
OneOrderAtMost = (file : List ℕ) (h : Head) → Conforms file h → (order other : PlainOrder) →
    IsPlainBody order file h → IsPlainBody other file h → order ≡ other

-- a TAL whose times and texts a lane can hold
pub record CanStand (tal : TalValue) : Type 0 where
  pub onset : unsigned_abs tal.onset < 10 ^ 21
  pub duration : IfSome tal.duration (λ v. (pos 0 ≤ℤ v) × (unsigned_abs v < 10 ^ 21))
  pub texts : All IsText tal.texts

-- it has one spelling of which no part isn't plain
abbrev pub OnePlainTal : Type 0
OnePlainTal = (tal : TalValue) → CanStand tal → (bytes : List ℕ) →
    IsLaidTal bytes tal (record { onset = None; duration = None }) ↔ (bytes ≡ plain_tal tal)

-- there is a lane with room for each annotation as its turn comes
abbrev pub AllHaveRoom : PlainOrder → List ℤ → ℕ → ℕ → List NoteValue → List FilledLane → Type 0
AllHaveRoom order starts width i [] lanes = Unit {0}
AllHaveRoom order starts width i (note ∷ notes) lanes =
    IsTrue (list_any (λ (lane : FilledLane). nat_le (tal_bytes (tal_of_note note)) lane.free) lanes)
    × AllHaveRoom order starts width (i + 1) notes
    (put_from (width * record_for order starts i note) (tal_of_note note) lanes)

-- then a plain order has the TAL of each annotation, and that of each start, and no others
abbrev pub PlainLanesHoldAll : Type 0
PlainLanesHoldAll = (order : PlainOrder) (notes : List NoteValue) (sizes : List ℕ) (starts : List ℤ) → 0 < length sizes →
    AllHaveRoom order starts (length sizes) 0 notes (flat_map (bare_record sizes) starts) →
    IsPermutation (map tal_of_note notes ++ map tal_of_start starts)
    (flat_map (λ talss. flat_map (λ tals. tals) talss) (plain_lanes order notes sizes starts))
