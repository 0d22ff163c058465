-- What is written of a file for a person to read.
use Rattle.std.specs.Prelude.{◌≡◌, ℕ, List, ◌++◌, None, Some}
use Rattle.edf_fields.specs.declared.faults.fault.Fault.{Fault}
use Rattle.edf_fields.specs.in_out.Sinks.{HoldsPrefix}
use Rattle.edf_report.specs.Reports.{fault_line}
use Rattle.edf_stream.specs.Faults.{file_fault}
use Rattle.edf_verdict.specs.declared.outcome.Outcome.{Outcome}
use Rattle.edf_verdict.specs.declared.outcome.Outcome.TheVariants.{Yes, No}

-- with Yes the file conforms, and no clause says more of the text; with No it is the line of the file's first fault, as `conform` writes it
abbrev pub IsReadText : List ℕ → List ℕ → Outcome → Type 0
IsReadText file text Yes = file_fault file ≡ None
IsReadText file text No = (fault : Fault) × (file_fault file ≡ Some fault) × (text ≡ fault_line fault)

-- behind what was held stands such a text, and nothing else
pub record IsReadWritten (file old new : List ℕ) (outcome : Outcome) : Type 0 where
  pub text : List ℕ
  pub is : IsReadText file text outcome
  pub behind : new ≡ old ++ text

-- behind what was held stands a front of such a text
pub record IsPartRead (file old new : List ℕ) : Type 0 where
  pub text : List ℕ
  pub outcome : Outcome
  pub is : IsReadText file text outcome
  pub part : HoldsPrefix old new text
