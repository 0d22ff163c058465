-- The plain orders of the annotations in data records (this project's profile): each in a TAL of its own that
-- is spelled plainly, in one of two orders.
use Rattle.std.specs.Prelude.{◌≡◌, ◌≢◌, ℕ, zero, suc, ◌+◌, ◌-◌, ◌*◌, ◌/◌, ◌%◌, ◌^◌, ◌==◌, nat_le, ℤ, pos, unsigned_abs, int_lt, int_le, List, [], ◌∷◌, ◌++◌, length, map, filter, take, drop, slice_get, Option, Some, None, if◌then◌else◌}
use Rattle.std.specs.Fmt.{decimal}
use Rattle.std.specs.List.{count_by, flat_map}
use Rattle.std.specs.List.Sorted.{IsPermutation}
use Rattle.std.specs.Option.{option_map, option_map_or}
use Rattle.edf_header.specs.Heads.{Head, is_annotations}
use Rattle.edf_tal.specs.Reading.{ended}
use Rattle.edf_tal.specs.Tals.{TalValue}
use Rattle.edf_stream.specs.annotation.Notes.{NoteValue, HasNotes, SaysRecord}
use Rattle.edf_stream.specs.records.Records.{record_at}
use Rattle.edf_layout.specs.body.BodyLayouts.{TalContent, PlacedTal, RecordLayout, BodyLayout, record_contents, HasBodyLayout}
use Rattle.edf_layout.specs.body.MeaningLaws.{AreInOrder}

-- ---- the plain spelling of a TAL

-- the last so many digits of a number, but for the zeros at their end
abbrev pub last_digits : ℕ → ℕ → List ℕ
last_digits zero number = []
last_digits (suc places) number =
    if number == 0 then [] else (48 + number / 10 ^ places) ∷ last_digits places (number % 10 ^ places)

-- so many picoseconds in seconds: no zero before other digits, a dot only where a fraction follows, and no
-- zero at its end
unfoldable pub plain_time : ℕ → List ℕ
plain_time ps =
    decimal (ps / 10 ^ 12) ++ (if ps % 10 ^ 12 == 0 then [] else 46 ∷ last_digits 12 (ps % 10 ^ 12))

-- a sign, which of 0 is a plus, and a time
abbrev pub plain_onset : ℤ → List ℕ
plain_onset onset = (if int_lt onset (pos 0) then 45 else 43) ∷ plain_time (unsigned_abs onset)

-- the byte 21 and a time, where there is a duration
abbrev pub plain_duration : Option ℤ → List ℕ
plain_duration None = []
plain_duration (Some duration) = 21 ∷ plain_time (unsigned_abs duration)

-- the plain spelling of a TAL
abbrev pub plain_tal : TalValue → List ℕ
plain_tal tal = (plain_onset tal.onset ++ plain_duration tal.duration) ++ 20 ∷ ended tal.texts

-- ---- lanes that are filled

-- a lane with the TALs that stand in it, and how many bytes are free behind them
pub record FilledLane : Type 0 where
  pub free : ℕ
  pub tals : List TalValue

-- the bytes that a TAL takes: its plain spelling and the byte 0 behind it
abbrev pub tal_bytes : TalValue → ℕ
tal_bytes tal = length (plain_tal tal) + 1

-- a lane with one more TAL
abbrev pub with_tal : TalValue → FilledLane → FilledLane
with_tal tal lane = record { free = lane.free - tal_bytes tal; tals = lane.tals ++ tal ∷ [] }

-- these lanes with one more TAL, in the first lane that has room for it, if there is one
abbrev pub put_first : TalValue → List FilledLane → Option (List FilledLane)
put_first tal [] = None
put_first tal (lane ∷ lanes) =
    if nat_le (tal_bytes tal) lane.free
    then Some (with_tal tal lane ∷ lanes)
    else option_map (λ filled. lane ∷ filled) (put_first tal lanes)

-- the same, but in the first one that has room from the lane of this number on, and behind the last lane from
-- the first one on; where no lane has room, without the TAL
abbrev pub put_from : ℕ → TalValue → List FilledLane → List FilledLane
put_from at tal lanes =
    option_map_or (λ filled. take at lanes ++ filled) (put_first tal (drop at lanes))
    (option_map_or (λ filled. filled ++ drop at lanes) (put_first tal (take at lanes)) lanes)

-- ---- the two orders

-- one annotation in each data record, from the first data record on, and behind the last one from the first
-- one on again; or each in the data record in whose time its onset lies
pub data PlainOrder : Type 0 where
  OneByOne : PlainOrder
  ByTime : PlainOrder

-- the last of the data records with these starts that doesn't start behind the onset, or the first one: that
-- in whose time it lies, or behind whose end it lies, or before which
abbrev pub record_of_onset : List ℤ → ℤ → ℕ
record_of_onset starts onset = count_by (λ start. int_le start onset) starts - 1

-- the data record for annotation number i, where data records have these starts
abbrev pub record_for : PlainOrder → List ℤ → ℕ → NoteValue → ℕ
record_for OneByOne starts i note = i % length starts
record_for ByTime starts i note = record_of_onset starts note.onset

-- the TAL of an annotation, and that which only keeps the time (EDF+, "Time keeping of data records")
abbrev pub tal_of_note : NoteValue → TalValue
tal_of_note note = record { onset = note.onset; duration = note.duration; texts = note.text ∷ [] }

abbrev pub tal_of_start : ℤ → TalValue
tal_of_start start = record { onset = start; duration = None; texts = [] ∷ [] }

-- a lane of this size with nothing in it
abbrev pub bare_lane : ℕ → FilledLane
bare_lane size = record { free = size; tals = [] }

-- lanes of these sizes, of a data record with this start, before any annotation stands there
abbrev pub bare_record : List ℕ → ℤ → List FilledLane
bare_record [] start = []
bare_record (size ∷ sizes) start =
    with_tal (tal_of_start start) (bare_lane size) ∷ map bare_lane sizes

-- the annotations from number i on go one by one into the lanes of all data records, of which each has
-- `width`: each into its data record, in the first of its lanes that has room, and else on into the next data
-- record that has
abbrev pub filled : PlainOrder → List ℤ → ℕ → ℕ → List NoteValue → List FilledLane → List FilledLane
filled order starts width i [] lanes = lanes
filled order starts width i (note ∷ notes) lanes =
    filled order starts width (i + 1) notes
    (put_from (width * record_for order starts i note) (tal_of_note note) lanes)

-- n parts of so many members each
abbrev pub parts_of : {X : Type 0} → ℕ → ℕ → List X → List (List X)
parts_of width zero xs = []
parts_of width (suc n) xs = take width xs ∷ parts_of width n (drop width xs)

-- the TALs of the lanes of each data record, by annotations in order, the sizes of the annotation lanes of a
-- data record, and the starts of the data records
unfoldable pub plain_lanes : PlainOrder → List NoteValue → List ℕ → List ℤ → List (List (List TalValue))
plain_lanes order notes sizes starts =
    parts_of (length sizes) (length starts)
    (map (λ (lane : FilledLane). lane.tals)
    (filled order starts (length sizes) 0 notes (flat_map (bare_record sizes) starts)))

-- ---- plain bodies

-- spelled plainly
abbrev pub placed_plainly : TalContent → PlacedTal
placed_plainly content = record { spelling = record { onset = None; duration = None }; content = content }

abbrev pub plain_record : List NoteValue → List (List TalValue) → RecordLayout
plain_record notes talss = map (λ contents. map placed_plainly contents) (record_contents notes talss)

-- the layout of data records with these annotations in order, these sizes of annotation lanes and these
-- starts
abbrev pub plain_body : PlainOrder → List NoteValue → List ℕ → List ℤ → BodyLayout
plain_body order notes sizes starts = map (plain_record notes) (plain_lanes order notes sizes starts)

-- how many bytes each annotation lane of a data record has
abbrev pub lane_sizes : Head → List ℕ
lane_sizes h = map (λ signal. 2 * signal.samples) (filter (λ signal. is_annotations signal.label) h.signals)

-- the data records of the file have these starts
pub record HaveStarts (file : List ℕ) (h : Head) (starts : List ℤ) : Type 0 where
  pub count : length starts ≡ h.records
  pub said : (k : ℕ) (start : ℤ) → slice_get starts k ≡ Some start
      → (notes : List NoteValue) × SaysRecord h (record_at file h k) start notes

-- a layout that fits both orders is of the first one
abbrev pub IsOfOrder : PlainOrder → List NoteValue → List ℕ → List ℤ → BodyLayout → Type 0
IsOfOrder OneByOne notes sizes starts layout = layout ≡ plain_body OneByOne notes sizes starts
IsOfOrder ByTime notes sizes starts layout =
    (layout ≡ plain_body ByTime notes sizes starts) × (layout ≢ plain_body OneByOne notes sizes starts)

-- the annotations of the file stand in its data records in this plain order
pub record IsPlainBody (order : PlainOrder) (file : List ℕ) (h : Head) : Type 0 where
  pub notes : List NoteValue
  pub ordered : List NoteValue
  pub starts : List ℤ
  pub layout : BodyLayout
  pub has_notes : HasNotes file h notes
  pub rearranged : IsPermutation notes ordered
  pub in_order : AreInOrder ordered
  pub has_starts : HaveStarts file h starts
  pub has_layout : HasBodyLayout file h layout
  pub plain : IsOfOrder order ordered (lane_sizes h) starts layout
