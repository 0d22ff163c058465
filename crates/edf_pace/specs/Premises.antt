-- What is said of each file that a source may give, and of what a call answers.
use Rattle.std.specs.Prelude.{◌≡◌, ℕ, Bool, List, Option, Some, Result, IsTrue, IfOk, IfErr, IfSome, IfNone}
use Rattle.edf_pace.specs.Words.{Fault, Head, body_fault}

-- a file that is read: whether its source is honest, its header, and in which files the reader goes on so
pub record Known : Type 1 where
  pub honest : Bool
  pub head : Head
  pub goes : List ℕ → Type 0

-- where the source is honest, this holds of each such file
abbrev pub OfFile : Known → (List ℕ → Type 0) → Type 0
OfFile known Holds = IsTrue known.honest → (file : List ℕ) → known.goes file → Holds file

-- the same of two files
abbrev pub OfFiles : Known → Known → (List ℕ → List ℕ → Type 0) → Type 0
OfFiles first second Hold =
    IsTrue first.honest → IsTrue second.honest → (a b : List ℕ) → first.goes a → second.goes b → Hold a b

-- that its data records have this fault
abbrev pub HasFault : Known → Fault → Type 0
HasFault known fault = OfFile known (λ file. body_fault file known.head ≡ Some fault)

-- what holds of a thing that was found, and where nothing was
abbrev pub IfFound : {X E : Type 0} → Result (Option X) E → (X → Type 0) → Type 0
IfFound result P = IfOk result (λ found. IfSome found P)

abbrev pub IfNothing : {X E : Type 0} → Result (Option X) E → Type 0 → Type 0
IfNothing result P = IfOk result (λ found. IfNone found P)

-- what holds of a file that was read, and of its fault
abbrev pub IfRead : {X F E : Type 0} → Result (Result X F) E → (X → Type 0) → Type 0
IfRead result P = IfOk result (λ read. IfOk read P)

abbrev pub IfFaulty : {X F E : Type 0} → Result (Result X F) E → (F → Type 0) → Type 0
IfFaulty result P = IfOk result (λ read. IfErr read P)
