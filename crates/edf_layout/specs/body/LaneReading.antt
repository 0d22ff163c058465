-- The layout of the first TAL of a lane, as it is read from the left.
use Rattle.std.specs.Prelude.{◌≡◌, ℕ, Bool, true, false, List, [], ◌∷◌, length, drop, map}
use Rattle.edf_tal.specs.Reading.{until}
use Rattle.edf_tal.specs.Tals.{TalValue}
use Rattle.edf_stream.specs.annotation.Notes.{NoteValue}
use Rattle.edf_layout.specs.body.BodyLayouts.{TalContent, PlacedTal, lane_contents, first_contents}
use Rattle.edf_layout.specs.PlainLaws.{is_plain_onset}
use Rattle.edf_layout.specs.body.LaneLayouts.{TalLayout, is_plain_duration, unless_plain}

-- the text that spells its onset
abbrev pub onset_at : List ℕ → List ℕ
onset_at lane = until 21 (until 20 lane)

-- the byte 21 and the text that spells its duration, or nothing
abbrev pub duration_at : List ℕ → List ℕ
duration_at lane = drop (length (onset_at lane)) (until 20 lane)

-- the layout of its spelling
abbrev pub layout_at : List ℕ → TalLayout
layout_at lane = record {
  onset = unless_plain (is_plain_onset (onset_at lane)) (onset_at lane);
  duration = unless_plain (is_plain_duration (duration_at lane)) (duration_at lane);
}

-- whether the next TAL keeps the time, where the first one does or doesn't
abbrev pub keeps_now : Bool → List PlacedTal → Bool
keeps_now keeps [] = keeps
keeps_now keeps (placed ∷ laid) = false

-- what TALs say, of which the first one keeps the time or not
abbrev pub contents_by : Bool → List NoteValue → List TalValue → List TalContent
contents_by true notes tals = first_contents notes tals
contents_by false notes tals = lane_contents notes tals

-- the TALs of a lane, with these layouts of their spelling, and what they say
pub record IsLaidAs (notes : List NoteValue) (keeps_time : Bool) (tals : List TalValue) (layouts : List TalLayout) (laid : List PlacedTal) : Type 0 where
  pub spelled : map (λ (placed : PlacedTal). placed.spelling) laid ≡ layouts
  pub said : map (λ (placed : PlacedTal). placed.content) laid ≡ contents_by keeps_time notes tals
