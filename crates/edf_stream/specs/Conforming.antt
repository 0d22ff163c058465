-- What it means that a file conforms to the profile (docs/PROFILE.md).
use Rattle.std.specs.Prelude.{◌≡◌, ℕ, suc, ℤ, pos, ◌<◌, ◌≤◌, ◌<ℤ◌, ◌≤ℤ◌, ◌+◌, ◌*◌, ◌+ℤ◌, ◌^◌, List, length}
use Rattle.edf_header.specs.declared.kind.Kind.{Kind}
use Rattle.edf_header.specs.declared.kind.Kind.TheVariants.{Contiguous, Interrupted}
use Rattle.edf_header.specs.Conforming.{HeaderConforms}
use Rattle.edf_header.specs.Heads.{Head, header_bytes, record_bytes}
use Rattle.edf_stream.specs.annotation.Notes.{NoteValue, HasNotes}

-- a data record starts where the one before it ends, or, in an interrupted file, there or later
abbrev pub FollowsOn : Kind → ℤ → ℤ → Type 0
FollowsOn Contiguous ended start = start ≡ ended
FollowsOn Interrupted ended start = ended ≤ℤ start

-- the file conforms to the profile, and this is its header: the header is in order; each data record says when it starts, and its
-- annotations; the first one starts in the first second, and each other one follows on; there are 1,000,000 annotations
-- at the most; and the file ends where its last data record does
pub record Conforms (file : List ℕ) (h : Head) : Type 0 where
  pub header : HeaderConforms file h
  pub notes : List NoteValue
  pub says : HasNotes file h notes
  pub not_early : pos 0 ≤ℤ says.starts 0
  pub in_first_second : says.starts 0 <ℤ pos (10 ^ 12)
  pub follows : (k : ℕ) → suc k < h.records → FollowsOn h.kind (says.starts k +ℤ h.duration) (says.starts (suc k))
  pub few : length notes ≤ 1000000
  pub size : length file ≡ header_bytes h + h.records * record_bytes h
