-- A list of tests, and the first that fails.
use Rattle.std.specs.Prelude.{Bool, Option, Some, None, List, [], ◌∷◌, if◌then◌else◌}

-- what the first test that fails finds: each test is none, or what it finds
abbrev pub first : {X : Type 0} → List (Option X) → Option X
first [] = None
first (None ∷ tests) = first tests
first (Some found ∷ tests) = Some found

-- a test that finds this where the answer is no
abbrev pub unless : {X : Type 0} → Bool → X → Option X
unless passes found = if passes then None else Some found
