-- That a file conforms, with what its data records say written out.
use Rattle.std.proofs.Common.{◌≡◌, ℕ, suc, ℤ, pos, ◌<◌, ◌≤◌, ◌≤ℤ◌, ◌<ℤ◌, ◌+ℤ◌, ◌+◌, ◌*◌, ◌^◌, List, length, refl, sym, ap, subst}
use Rattle.edf_header.specs.Conforming.{HeaderConforms}
use Rattle.edf_header.specs.Heads.{Head, header_bytes, record_bytes}
use Rattle.edf_stream.specs.Conforming.{FollowsOn, Conforms}
use Rattle.edf_stream.specs.annotation.Notes.{NoteValue, SayRecords, together}

-- the starts of the data records, and the annotations of each, stand beside the rest
pub record ConformsApart (file : List ℕ) (h : Head) : Type 0 where
  pub header : HeaderConforms file h
  pub starts : ℕ → ℤ
  pub notes : ℕ → List NoteValue
  pub say : SayRecords file h starts notes
  pub not_early : pos 0 ≤ℤ starts 0
  pub in_first_second : starts 0 <ℤ pos (10 ^ 12)
  pub follows : (k : ℕ) → suc k < h.records → FollowsOn h.kind (starts k +ℤ h.duration) (starts (suc k))
  pub few : length (together notes h.records) ≤ 1000000
  pub size : length file ≡ header_bytes h + h.records * record_bytes h

-- both say the same
pub apart : (file : List ℕ) (h : Head) → Conforms file h → ConformsApart file h
apart file h c = record {
  header = c.header;
  starts = (c.says).starts;
  notes = (c.says).notes;
  say = (c.says).say;
  not_early = c.not_early;
  in_first_second = c.in_first_second;
  follows = c.follows;
  few = subst (λ n. n ≤ 1000000) (ap length (c.says).all_are) c.few;
  size = c.size;
}

pub in-one : (file : List ℕ) (h : Head) → ConformsApart file h → Conforms file h
in-one file h c = record {
  header = c.header;
  notes = together c.notes h.records;
  says = record { starts = c.starts; notes = c.notes; say = c.say; all_are = refl };
  not_early = c.not_early;
  in_first_second = c.in_first_second;
  follows = c.follows;
  few = c.few;
  size = c.size;
}
