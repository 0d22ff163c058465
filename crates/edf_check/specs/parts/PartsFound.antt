-- What is found in several exports of one original, of which the first has a number: by their places in the list. Times are
-- picoseconds after the second at which the original starts, before the shift; the parts are moved by `by` picoseconds, so that they count
-- from there. These are steps between the definitions and the code.
use Rattle.edf_check.specs.parts.PartsFirst.{IsPart, rank, IsFirstHead}
use Rattle.std.specs.Prelude.{◌≡◌, ℕ, zero, suc, ◌<◌, ℤ, ◌≤ℤ◌, ◌<ℤ◌, nat_lt, if◌then◌else◌, List, [], ◌∷◌, Option, None, Some, MatchOption, slice_get}
use Rattle.edf_check.specs.Words.{option_or, ClaimValue, Head, head_of, HeadsAgree, Conforms, Verdict, PartVerdict, PartsFound, Course}
use Rattle.edf_pace.specs.walk.Shown.{begin_by, last_end_by}

-- the headers of all parts agree
abbrev pub AllAgree : Head → ClaimValue → List (List ℕ) → Type 0
AllAgree h claim parts = (j : ℕ) (file : List ℕ) → slice_get parts j ≡ Some file → HeadsAgree h (head_of file) claim

-- where the part ends that stands before the one at this place; before the first one, t
abbrev pub end_before_part : ℤ → ℤ → List (List ℕ) → ℕ → ℤ
end_before_part by t parts zero = t
end_before_part by t [] (suc k) = t
end_before_part by t (part ∷ parts) (suc k) = end_before_part by (last_end_by part (head_of part) by) parts k

-- this is the first part that begins before the one before it ends
pub record IsFirstEarly (by t : ℤ) (first : ℕ) (parts : List (List ℕ)) (part : ℕ) : Type 0 where
  pub at : ℕ
  pub file : List ℕ
  pub is : IsPart first parts part at file
  pub early : begin_by file (head_of file) by 0 <ℤ end_before_part by t parts at
  pub none_before : (j : ℕ) (other : List ℕ) → j < at → slice_get parts j ≡ Some other → end_before_part by t parts j ≤ℤ begin_by other (head_of other) by 0

-- each part begins where the one before it ends, the first one at t, or later
abbrev pub AreOrdered : ℤ → ℤ → List (List ℕ) → Type 0
AreOrdered by t [] = Unit {0}
AreOrdered by t (part ∷ parts) = (t ≤ℤ begin_by part (head_of part) by 0) × AreOrdered by (last_end_by part (head_of part) by) parts

-- all parts conform
abbrev pub AllConformAt : List (List ℕ) → Type 0
AllConformAt parts = (j : ℕ) (file : List ℕ) → slice_get parts j ≡ Some file → Conforms file (head_of file)

-- the headers of all parts agree, or this is their first difference
abbrev pub IsHeadsFound : Head → ClaimValue → ℕ → List (List ℕ) → Option PartVerdict → Type 0
IsHeadsFound h claim first parts found = MatchOption found (AllAgree h claim parts) (λ p. IsFirstHead h claim first parts p.part p.verdict)

-- each part begins where the one before it ends or later, or this is the first one that doesn't
abbrev pub IsEarlyFound : ℤ → ℤ → ℕ → List (List ℕ) → Option ℕ → Type 0
IsEarlyFound by t first parts found = MatchOption found (AreOrdered by t parts) (λ part. IsFirstEarly by t first parts part)

-- of a part's verdict and of the first one of the parts behind it, the one that goes first
abbrev pub earlier_of : ℕ → Verdict → Option PartVerdict → PartVerdict
earlier_of part verdict None = record { part = part; verdict = verdict }
earlier_of part verdict (Some later) = if nat_lt (rank later.verdict) (rank verdict) then later else record { part = part; verdict = verdict }

-- the same, where the part may have none
abbrev pub first_of : ℕ → Option Verdict → Option PartVerdict → Option PartVerdict
first_of part None later = later
first_of part (Some verdict) later = Some (earlier_of part verdict later)

-- nothing was found
abbrev pub nothing : PartsFound
nothing = record { heads = None; early = None; found = None }

-- what is found in a part whose header differs so, and in those behind it
abbrev pub found_with : ℕ → Option Verdict → Course → PartsFound → PartsFound
found_with part heads course rest = record {
  heads = first_of part heads rest.heads;
  early = if course.is_early then Some part else rest.early;
  found = option_or course.found rest.found;
}
