-- What the data records of a file hold besides its samples and its annotations: in which data record, lane
-- and TAL each annotation stands, and how the TALs are spelled. EDF+ (2003), "Time-stamped Annotations Lists
-- (TALs) in an 'EDF Annotations' signal".
use Rattle.std.specs.Prelude.{◌≡◌, ℕ, ℤ, List, [], ◌∷◌, length, map, drop, slice_get, Option, Some}
use Rattle.edf_header.specs.Heads.{Head}
use Rattle.edf_tal.specs.Tals.{TalValue}
use Rattle.edf_stream.specs.annotation.Notes.{NoteValue, HasNotes, notes_of_tal}
use Rattle.edf_stream.specs.records.Records.{annotation_lanes, record_at}
use Rattle.edf_layout.specs.body.LaneLayouts.{TalLayout, IsLaidLane}
use Rattle.edf_layout.specs.body.NoteOrders.{place_of}

-- what a TAL says, by the places of its annotations among all of its file in order: of the TAL that keeps the
-- time its duration besides (EDF+, "Time keeping of data records"); of a TAL with no text, which is no
-- annotation, its onset and its duration
pub data TalContent : Type 0 where
  KeepsTime : Option ℤ → List ℕ → TalContent
  SaysNothing : ℤ → Option ℤ → TalContent
  Annotates : List ℕ → TalContent

-- the layout of a TAL: how its onset and its duration are spelled, and what it says
pub record PlacedTal : Type 0 where
  pub spelling : TalLayout
  pub content : TalContent

-- of a data record: that of the TALs of each of its annotation lanes
abbrev pub RecordLayout : Type 0
RecordLayout = List (List PlacedTal)

-- of a file: that of each of its data records
abbrev pub BodyLayout : Type 0
BodyLayout = List RecordLayout

-- the places of the annotations that a TAL with this onset, this duration and these texts says
abbrev pub note_places : List NoteValue → ℤ → Option ℤ → List (List ℕ) → List ℕ
note_places notes onset duration texts =
    map (place_of notes) (notes_of_tal (record { onset = onset; duration = duration; texts = texts }))

-- what the texts of a TAL with this onset and this duration say
abbrev pub content_with : List NoteValue → ℤ → Option ℤ → List (List ℕ) → TalContent
content_with notes onset duration [] = SaysNothing onset duration
content_with notes onset duration (text ∷ texts) =
    Annotates (note_places notes onset duration (text ∷ texts))

-- what a TAL says that doesn't keep the time
abbrev pub content_of : List NoteValue → TalValue → TalContent
content_of notes tal = content_with notes tal.onset tal.duration tal.texts

-- what the TAL says that keeps the time: its first text is none of its annotations
abbrev pub timekeeping_of : List NoteValue → TalValue → TalContent
timekeeping_of notes tal =
    KeepsTime tal.duration (note_places notes tal.onset tal.duration (drop 1 tal.texts))

-- what the TALs of a lane say
abbrev pub lane_contents : List NoteValue → List TalValue → List TalContent
lane_contents notes tals = map (content_of notes) tals

-- what those of a data record's first lane say: the first of them keeps the time
abbrev pub first_contents : List NoteValue → List TalValue → List TalContent
first_contents notes [] = []
first_contents notes (tal ∷ tals) = timekeeping_of notes tal ∷ lane_contents notes tals

-- what those of the lanes of a data record say
abbrev pub record_contents : List NoteValue → List (List TalValue) → List (List TalContent)
record_contents notes [] = []
record_contents notes (tals ∷ talss) = first_contents notes tals ∷ map (lane_contents notes) talss

-- there are as many lanes as lists of TALs and as layouts, and each lane spells the list at its place, with
-- that layout
abbrev pub AreLaidLanes : List (List ℕ) → List (List TalValue) → List (List TalLayout) → Type 0
AreLaidLanes [] [] [] = Unit {0}
AreLaidLanes (lane ∷ lanes) (tals ∷ talss) (spelling ∷ spellings) =
    IsLaidLane lane tals spelling × AreLaidLanes lanes talss spellings
AreLaidLanes lanes talss spellings = ⊥

-- how TALs are spelled, and what they say
abbrev pub spellings_in : RecordLayout → List (List TalLayout)
spellings_in layout = map (λ lane. map (λ (placed : PlacedTal). placed.spelling) lane) layout

abbrev pub contents_in : RecordLayout → List (List TalContent)
contents_in layout = map (λ lane. map (λ (placed : PlacedTal). placed.content) lane) layout

-- the data record of these bytes has this layout, in a file with these annotations
pub record IsRecordLayout (h : Head) (notes : List NoteValue) (bytes : List ℕ) (layout : RecordLayout) : Type 0 where
  pub talss : List (List TalValue)
  pub laid : AreLaidLanes (annotation_lanes h.signals bytes) talss (spellings_in layout)
  pub said : contents_in layout ≡ record_contents notes talss

-- the data records of the file have this layout
pub record HasBodyLayout (file : List ℕ) (h : Head) (layout : BodyLayout) : Type 0 where
  pub notes : List NoteValue
  pub has_notes : HasNotes file h notes
  pub count : length layout ≡ h.records
  pub records : (k : ℕ) (one : RecordLayout) → slice_get layout k ≡ Some one
      → IsRecordLayout h notes (record_at file h k) one
