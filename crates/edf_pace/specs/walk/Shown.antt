-- What a reader of a file shows between two times, in picoseconds after the second at which the original starts, before the shift.
-- These are steps between the definitions and the code.
use Rattle.std.specs.Prelude.{ℕ, ℤ, ◌≡◌, suc, ◌+◌, ◌+ℤ◌, ◌*◌, ◌^◌, unsigned_abs, ◌<◌, ◌≤◌, ◌<ℤ◌, ◌≤ℤ◌, true, List}
use Rattle.edf_pace.specs.Words.{Head, Conforms, Reader, is_current, file_start, start_in, start_at, end_at, end_before}
use Rattle.edf_stream.specs.declared.records.status.Status.{Status}
use Rattle.edf_stream.specs.declared.records.status.Status.TheVariants.{Begun, Current, Ended, Stopped}
use Rattle.edf_stream.specs.records.Records.{record_at}

-- where a data record of a file begins, moved
abbrev pub begin_by : List ℕ → Head → ℤ → ℕ → ℤ
begin_by file h ps k = (file_start h +ℤ ps) +ℤ start_at file h k

-- where a data record of a file ends, moved
abbrev pub end_by : List ℕ → Head → ℤ → ℕ → ℤ
end_by file h ps k = (file_start h +ℤ ps) +ℤ end_at file h k

-- where the last data record of a file ends, moved
abbrev pub last_end_by : List ℕ → Head → ℤ → ℤ
last_end_by file h ps = (file_start h +ℤ ps) +ℤ end_before file h h.records

-- the first k data records end at t or before
abbrev pub ArePast : List ℕ → Head → ℤ → ℕ → ℤ → Type 0
ArePast file h ps k t = (j : ℕ) → j < k → end_by file h ps j ≤ℤ t

-- what a reader shows of the file at the time t: data record k, with all before it past; or nothing, with all past
abbrev pub Shows : Status → Reader → List ℕ → ℤ → ℤ → Type 0
Shows Begun r file ps t = ⊥
Shows Current r file ps t =
    (k : ℕ) × (r.read ≡ suc k) × (suc k ≤ (r.head).records) × (r.current ≡ record_at file r.head k) × (r.ended ≡ end_at file r.head k) × ArePast file r.head ps k t
Shows Ended r file ps t = ArePast file r.head ps (r.head).records t
Shows (Stopped stop) r file ps t = ⊥

-- this holds where a data record is at hand
abbrev pub IfAtHand : Reader → Type 0 → Type 0
IfAtHand r Holds = is_current r.status ≡ true → Holds

-- the file starts near
abbrev pub IsNear : Head → Type 0
IsNear h = unsigned_abs (file_start h) < 2 ^ 39 * 10 ^ 12

-- one more was read than before, of those of the file
abbrev pub OneMore : Reader → Reader → Type 0
OneMore old new = (new.read ≡ old.read + 1) × (new.read ≤ (new.head).records)

-- where the data record at hand begins, moved
abbrev pub begins_at : Reader → ℤ → ℤ
begins_at r ps = (file_start r.head +ℤ ps) +ℤ start_in r.head r.current

-- where the data record at hand ends, moved
abbrev pub ends_at : Reader → ℤ → ℤ
ends_at r ps = (file_start r.head +ℤ ps) +ℤ r.ended

-- a data record is at hand, and it ends at t
abbrev pub IsEndOf : Reader → ℤ → ℤ → Type 0
IsEndOf r ps t = (is_current r.status ≡ true) × (t ≡ ends_at r ps)

-- the data record at hand, if there is one, ends at u or later
abbrev pub Reaches : Reader → ℤ → ℤ → Type 0
Reaches r ps u = is_current r.status ≡ true → u ≤ℤ ends_at r ps

-- the data record at hand, if there is one, ends behind t
abbrev pub IsAhead : Reader → ℤ → ℤ → Type 0
IsAhead r ps t = is_current r.status ≡ true → t <ℤ ends_at r ps

-- of both, where they have one, and t is behind whatever time these are ahead of
abbrev pub IsBehind : Reader → ℤ → Reader → ℤ → ℤ → Type 0
IsBehind one a other b t = (s : ℤ) → IsAhead one a s → IsAhead other b s → s <ℤ t

-- a data record is at hand, or the file has ended
abbrev pub IsGoing : Status → Type 0
IsGoing Begun = ⊥
IsGoing Current = Unit {0}
IsGoing Ended = Unit {0}
IsGoing (Stopped stop) = ⊥

-- a reader goes on, and what it has at hand ends behind t
abbrev pub StandsAt : Reader → ℤ → ℤ → Type 0
StandsAt r ps t = IsGoing r.status × IsAhead r ps t

-- the data record at hand of a file that conforms has all that stands from t on and before u
pub record Covers (r : Reader) (file : List ℕ) (ps t u : ℤ) : Type 0 where
  pub conforms : Conforms file r.head
  pub shows : Shows r.status r file ps t
  pub reaches : Reaches r ps u
