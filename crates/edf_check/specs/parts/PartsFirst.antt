-- Which fault, and which difference of a header, is the first one of several exports of one original, of which the first has a number.
use Rattle.std.specs.Prelude.{◌≡◌, ℕ, ◌+◌, ◌<◌, ◌≤◌, ◌⊎◌, List, None, Some, slice_get}
use Rattle.edf_check.specs.Words.{ClaimValue, Fault, Head, head_of, IsHeadVerdict, file_fault, Verdict}
use Rattle.edf_verdict.specs.declared.verdict.Verdict.TheVariants.{Yes, No}
use Rattle.edf_verdict.specs.Lines.{number_of}

-- the part of this number is the file
pub record IsPart (first : ℕ) (parts : List (List ℕ)) (part at : ℕ) (file : List ℕ) : Type 0 where
  pub number : part ≡ first + at
  pub there : slice_get parts at ≡ Some file

-- this is the fault of the first part that has one
pub record IsFirstFault (first : ℕ) (parts : List (List ℕ)) (part : ℕ) (fault : Fault) : Type 0 where
  pub at : ℕ
  pub file : List ℕ
  pub is : IsPart first parts part at file
  pub fault_is : file_fault file ≡ Some fault
  pub none_before : (j : ℕ) (other : List ℕ) → j < at → slice_get parts j ≡ Some other → file_fault other ≡ None

-- the number of a verdict No
abbrev pub rank : Verdict → ℕ
rank (Yes channels samples annotations) = 0
rank (No difference) = number_of difference

-- a lower number goes first, and of the same number the earlier part
abbrev pub GoesFirst : ℕ → ℕ → ℕ → ℕ → Type 0
GoesFirst number at other j = (number < other) ⊎ ((number ≡ other) × (at ≤ j))

-- this is the first difference of a header: the one with the lowest number, and of several with that number the one of the first part
pub record IsFirstHead (h : Head) (claim : ClaimValue) (first : ℕ) (parts : List (List ℕ)) (part : ℕ) (verdict : Verdict) : Type 0 where
  pub at : ℕ
  pub file : List ℕ
  pub is : IsPart first parts part at file
  pub differs : IsHeadVerdict h (head_of file) claim verdict
  pub least : (j : ℕ) (other : List ℕ) (v : Verdict) → slice_get parts j ≡ Some other → IsHeadVerdict h (head_of other) claim v → GoesFirst (rank verdict) at (rank v) j
