-- Files that hold the same night, however a writer cut them into data records and ordered their signals (this project's profile).
use Rattle.std.specs.Prelude.{◌≡◌, ℕ, List}
use Rattle.edf_check.specs.Words.{IsPermutation, head_of, AreSameHeads, Conforms, notes_of}
use Rattle.edf_check.specs.Courses.{Agree}
use Rattle.edf_check.specs.KeptReading.{ValueAt}
use Rattle.edf_check.specs.parts.PartsVerdicts.{samples_in}

-- both files conform; their headers say the same; their channels have the same values at all instants, and as many samples; and
-- the annotations of the one are those of the other, in some order
pub record HoldTheSame (a b : List ℕ) : Type 0 where
  pub first_conforms : Conforms a (head_of a)
  pub second_conforms : Conforms b (head_of b)
  pub heads : AreSameHeads (head_of a) (head_of b)
  pub samples : Agree (ValueAt a) (ValueAt b)
  pub as_many : samples_in (head_of a) ≡ samples_in (head_of b)
  pub notes : IsPermutation (notes_of a (head_of a)) (notes_of b (head_of b))
