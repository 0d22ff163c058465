-- What a claim keeps of an original, and how it stands in an export.
use Rattle.std.specs.Prelude.{◌≡◌, ℕ, ℤ, pos, neg_ℤ, ◌+ℤ◌, ◌-ℤ◌, ◌*ℤ◌, ◌^◌, IsTrue, List, filter, map}
use Rattle.edf_claim.specs.ClaimValues.{ClaimValue}
use Rattle.edf_claim.specs.Keeps.{keeps_instant, keeps_annotation, kept_text}
use Rattle.edf_fields.specs.Lists.{Has}
use Rattle.edf_header.specs.Heads.{Head}
use Rattle.edf_stream.specs.times.Instants.{IsSame}
use Rattle.edf_stream.specs.annotation.Notes.{NoteValue, moved_by}
use Rattle.edf_stream.specs.samples.Samples.{SampleValue, IsSample}
use Rattle.edf_stream.specs.times.Starts.{file_start}
use Rattle.edf_samples.specs.Instants.{later}

-- by how much a claim moves what it keeps, in picoseconds
abbrev pub shift_ps : ClaimValue → ℤ
shift_ps claim = claim.shift *ℤ pos (10 ^ 12)

-- a sample of the original, whose header this is, that the claim keeps: its channel is claimed, and its instant, counted from the
-- second at which the original starts, is in an interval
pub record IsKeptSample (original : List ℕ) (h : Head) (claim : ClaimValue) (x : SampleValue) : Type 0 where
  pub sample : IsSample original h x
  pub channel : Has claim.channels x.label
  pub instant : IsTrue (keeps_instant claim (later (neg_ℤ (file_start h)) x.instant).num (x.instant).den)

-- the second sample is the first one at its instant moved by the claimed shift
pub record IsShifted (claim : ClaimValue) (x y : SampleValue) : Type 0 where
  pub label : y.label ≡ x.label
  pub value : y.value ≡ x.value
  pub instant : IsSame (later (shift_ps claim) x.instant) y.instant

-- the samples of the export, whose header is g, are those that the claim keeps of the original, whose header is h, each moved by
-- the claimed shift, and no others
pub record SamplesAsKept (original export : List ℕ) (h g : Head) (claim : ClaimValue) : Type 0 where
  pub all_kept : (x : SampleValue) → IsKeptSample original h claim x → (y : SampleValue) × IsSample export g y × IsShifted claim x y
  pub none_else : (y : SampleValue) → IsSample export g y → (x : SampleValue) × IsKeptSample original h claim x × IsShifted claim x y

-- what the claim makes of the original's annotations: nothing of one that it doesn't keep; and each other one stays as it is, but for
-- the text, which is `X` where the claim blanks it
abbrev pub kept_of : ClaimValue → List NoteValue → List NoteValue
kept_of claim notes =
    map (λ note. record { onset = note.onset; duration = note.duration; text = kept_text claim note.text })
    (filter (λ note. keeps_annotation claim note.onset note.text) notes)

-- the annotations of the export, whose header is g, with the shift taken off: their onsets count from the second at which the
-- original starts, whose header is h
abbrev pub unshifted : Head → Head → ClaimValue → List NoteValue → List NoteValue
unshifted h g claim notes = map (moved_by (file_start g -ℤ (file_start h +ℤ shift_ps claim))) notes
