-- What is noted of an export once for each of its data records: when it begins and ends, and, where that is wanted, when its annotations begin.
use Rattle.std.specs.Prelude.{◌≡◌, ◌&&◌, ℕ, ℤ, ◌+ℤ◌, int_le, int_lt, Bool, false, if◌then◌else◌, List, [], ◌++◌, map, Option, None, Some, option_map}
use Rattle.std.specs.Borrow.{Bor}
use Rattle.edf_findings.specs.Times.{is_another, joined, offset_of, time_at_hand}
use Rattle.edf_findings.specs.declared.record_time.RecordTime.{RecordTime}
use Rattle.edf_findings.specs.declared.stand.Stand.{Stand}
use Rattle.edf_pace.specs.declared.walk.frame.Frame.{Frame}
use Rattle.edf_stream.specs.annotation.Notes.{NoteValue}
use Rattle.edf_stream.specs.annotation.NotesReading.{notes_in}
use Rattle.edf_stream.specs.records.Readers.{Reader}

-- behind so many data records: from when to when they last, and when their annotations begin, in picoseconds after the second at which the
-- original starts
pub record NotedValue : Type 0 where
  pub read : ℕ
  pub time : Option RecordTime
  pub wants_onsets : Bool
  pub onsets : List ℤ

-- of no data record yet
abbrev pub nothing_noted : Bool → NotedValue
nothing_noted wants = record { read = 0; time = None; wants_onsets = wants; onsets = [] }

-- when annotations begin that are moved by so much
abbrev pub onsets_by : ℤ → List NoteValue → List ℤ
onsets_by moved notes = map (λ (note : NoteValue). moved +ℤ note.onset) notes

-- where the export stands that is compared
abbrev pub stand_in : Frame → Bor Reader → Stand
stand_in frame export = record { reader = export; by = ((frame.turn).setting.clock).export }

-- of the data record at hand, too, if it is another one than before
abbrev pub noted_with : Stand → NotedValue → NotedValue
noted_with stand noted =
    if is_another noted.read (stand.reader).now
    then record {
      read = (stand.reader).now.read;
      time = option_map (joined noted.time) (time_at_hand stand);
      wants_onsets = noted.wants_onsets;
      onsets = if noted.wants_onsets then noted.onsets ++ onsets_by (offset_of stand) (notes_in (stand.reader).now.head (stand.reader).now.current) else noted.onsets;
    }
    else noted

-- when a time begins
abbrev pub begin_of : Option RecordTime → Option ℤ
begin_of None = None
begin_of (Some time) = Some time.from_ps

-- a time has begun at another, and isn't over
abbrev pub lasts_over : Option RecordTime → ℤ → Bool
lasts_over None at = false
lasts_over (Some time) at = int_le time.from_ps at && int_lt at time.to_ps
