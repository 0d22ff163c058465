-- What a claim keeps of an original, and what an export holds with the shift taken off, at instants counted from the second at which the original starts.
use Rattle.std.specs.Prelude.{◌≡◌, ℕ, ℤ, neg_ℤ, ◌+ℤ◌, IsTrue, List, map}
use Rattle.edf_claim.specs.ClaimValues.{ClaimValue}
use Rattle.edf_claim.specs.Keeps.{keeps_instant}
use Rattle.edf_fields.specs.Lists.{Has}
use Rattle.edf_header.specs.HeadsReading.{head_of}
use Rattle.edf_stream.specs.times.Instants.{IsSame}
use Rattle.edf_stream.specs.annotation.Notes.{NoteValue, moved_by}
use Rattle.edf_stream.specs.annotation.NotesReading.{notes_of}
use Rattle.edf_stream.specs.samples.Samples.{SampleValue, IsSample}
use Rattle.edf_stream.specs.times.Starts.{file_start}
use Rattle.edf_check.specs.Courses.{Course}
use Rattle.edf_samples.specs.Instants.{later}
use Rattle.edf_pace.specs.Kept.{shift_ps, kept_of}

-- the start of a file, in picoseconds after 1970-01-01 00:00:00
abbrev pub origin_of : List ℕ → ℤ
origin_of file = file_start (head_of file)

-- the file has a sample of this channel and this value at the instant, which is counted from 1970-01-01 00:00:00
abbrev pub ValueAt : List ℕ → Course
ValueAt file label at value = (x : SampleValue) × IsSample file (head_of file) x × (x.label ≡ label) × IsSame x.instant at × (x.value ≡ value)

-- the claim keeps a value of the original: the channel is claimed, the instant is in an interval, and the original has it there
abbrev pub KeptAt : List ℕ → ClaimValue → Course
KeptAt original claim label at value =
    Has claim.channels label × IsTrue (keeps_instant claim at.num at.den) × ValueAt original label (later (origin_of original) at) value

-- the export has a value at the instant moved by the shift
abbrev pub ExportedAt : List ℕ → List ℕ → ClaimValue → Course
ExportedAt original export claim label at value = ValueAt export label (later (origin_of original +ℤ shift_ps claim) at) value

-- the annotations that the claim keeps of the original, as it keeps them, with onsets after the second at which it starts
abbrev pub kept_notes : List ℕ → ClaimValue → List NoteValue
kept_notes original claim = kept_of claim (map (moved_by (neg_ℤ (origin_of original))) (notes_of original (head_of original)))

-- the annotations of the export with the shift taken off, with onsets after the second at which the original starts
abbrev pub exported_notes : List ℕ → List ℕ → ClaimValue → List NoteValue
exported_notes original export claim =
    map (moved_by (neg_ℤ (origin_of original +ℤ shift_ps claim))) (notes_of export (head_of export))
