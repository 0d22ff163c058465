-- The annotations of a file, as they are read.
use Rattle.std.specs.Prelude.{ℕ, zero, suc, ◌+◌, List, [], ◌++◌, ◌∷◌, map, drop, length, Ok, Err}
use Rattle.std.specs.List.{flat_map}
use Rattle.edf_header.specs.Heads.{Head}
use Rattle.edf_tal.specs.Reading.{Item, items_of}
use Rattle.edf_stream.specs.annotation.Notes.{NoteValue, notes_of_tal, moved_by}
use Rattle.edf_stream.specs.records.Records.{annotation_lanes, record_at}
use Rattle.edf_stream.specs.times.Starts.{file_start}

-- what the TALs among these items say
abbrev pub notes_of_items : List Item → List NoteValue
notes_of_items [] = []
notes_of_items (Ok tal ∷ items) = notes_of_tal tal ++ notes_of_items items
notes_of_items (Err cause ∷ items) = notes_of_items items

-- what the TALs of a lane say
abbrev pub notes_of_lane : List ℕ → List NoteValue
notes_of_lane lane = notes_of_items (items_of lane)

-- what the TALs of these lanes say
abbrev pub notes_of_lanes : List (List ℕ) → List NoteValue
notes_of_lanes lanes = flat_map notes_of_lane lanes

-- the annotations of the data record of these bytes, in order of signal, TAL and text: all texts but the
-- first, which only keeps the time
unfoldable pub notes_in : Head → List ℕ → List NoteValue
notes_in h bytes = drop 1 (notes_of_lanes (annotation_lanes h.signals bytes))

-- how many annotations stand in the first k data records
abbrev pub notes_before : List ℕ → Head → ℕ → ℕ
notes_before file h zero = 0
notes_before file h (suc k) = notes_before file h k + length (notes_in h (record_at file h k))

-- the annotations of the data record of these bytes, with onsets after 1970-01-01 00:00:00
unfoldable pub moved_notes_in : Head → List ℕ → List NoteValue
moved_notes_in h bytes = map (moved_by (file_start h)) (notes_in h bytes)

-- those of the first k data records, in their order
abbrev pub moved_notes_before : List ℕ → Head → ℕ → List NoteValue
moved_notes_before file h zero = []
moved_notes_before file h (suc k) = moved_notes_before file h k ++ moved_notes_in h (record_at file h k)

-- the annotations of a file, with onsets after 1970-01-01 00:00:00
unfoldable pub notes_of : List ℕ → Head → List NoteValue
notes_of file h = moved_notes_before file h h.records
