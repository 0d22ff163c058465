-- What a command line asks for.
use Rattle.std.specs.Prelude.{◌≡◌, ◌≢◌, ◌⊎◌, ℕ, ◌<◌, List, [], ◌∷◌, length, map, drop, slice_index, slice_index_or, codes}
use Rattle.std.specs.Borrow.{Bor}
use Rattle.std.specs.List.{Contains}
use Rattle.edf_jobs.specs.declared.jobs.Job.{Job}
use Rattle.edf_jobs.specs.declared.jobs.Job.TheVariants.{Check, CheckParts, Receipt, ReceiptParts, Draft, DraftParts, Explain, ExplainParts, Conform, Show, Notes, Read, Layout, Claim, Vectors}

-- the words behind the first, which is the program's name
abbrev pub behind_first : List (Bor (List ℕ)) → List (List ℕ)
behind_first words = drop 1 (map (λ w. w.now) words)

-- `--` stands among the words: it says of those behind it that they are arguments, and is none itself
abbrev pub HaveEscape : List (List ℕ) → Type 0
HaveEscape words = Contains words (codes "--")

-- the words are this command and its arguments, in order; of exports there is one at least
abbrev pub SaysJob : List (List ℕ) → Job → Type 0
SaysJob words (Check original export claim) = words ≡ codes "check" ∷ original.now ∷ export.now ∷ claim.now ∷ []
SaysJob words (CheckParts original claim exports) =
    (words ≡ codes "check-parts" ∷ original.now ∷ claim.now ∷ map (λ w. w.now) exports.now) × (0 < length exports.now) × ¬ HaveEscape words
SaysJob words (Receipt original export claim) = words ≡ codes "receipt" ∷ original.now ∷ export.now ∷ claim.now ∷ []
SaysJob words (ReceiptParts original claim exports) =
    (words ≡ codes "receipt-parts" ∷ original.now ∷ claim.now ∷ map (λ w. w.now) exports.now) × (0 < length exports.now) × ¬ HaveEscape words
SaysJob words (Draft original export) = words ≡ codes "draft" ∷ original.now ∷ export.now ∷ []
SaysJob words (DraftParts original exports) =
    (words ≡ codes "draft-parts" ∷ original.now ∷ map (λ w. w.now) exports.now) × (0 < length exports.now) × ¬ HaveEscape words
SaysJob words (Explain original export claim) = words ≡ codes "explain" ∷ original.now ∷ export.now ∷ claim.now ∷ []
SaysJob words (ExplainParts original claim exports) =
    (words ≡ codes "explain-parts" ∷ original.now ∷ claim.now ∷ map (λ w. w.now) exports.now) × (0 < length exports.now) × ¬ HaveEscape words
SaysJob words (Conform path) = words ≡ codes "conform" ∷ path.now ∷ []
SaysJob words (Show path) = words ≡ codes "show" ∷ path.now ∷ []
SaysJob words (Notes path) = words ≡ codes "notes" ∷ path.now ∷ []
SaysJob words (Read path) = words ≡ codes "read" ∷ path.now ∷ []
SaysJob words (Layout path) = words ≡ codes "layout" ∷ path.now ∷ []
SaysJob words (Claim claim) = words ≡ codes "claim" ∷ claim.now ∷ []
SaysJob words Vectors = words ≡ codes "vectors" ∷ []

-- a job over several exports has one at least
abbrev pub HasExports : Job → Type 0
HasExports (CheckParts original claim exports) = 0 < length exports.now
HasExports (ReceiptParts original claim exports) = 0 < length exports.now
HasExports (DraftParts original exports) = 0 < length exports.now
HasExports (ExplainParts original claim exports) = 0 < length exports.now
HasExports job = Unit {0}

-- the words are no command with its arguments
abbrev pub SaysNoJob : List (List ℕ) → Type 0
SaysNoJob words = (j : Job) → ¬ SaysJob words j

-- the job is one over several exports
abbrev pub IsOfParts : Job → Type 0
IsOfParts (CheckParts original claim exports) = Unit {0}
IsOfParts (ReceiptParts original claim exports) = Unit {0}
IsOfParts (DraftParts original exports) = Unit {0}
IsOfParts (ExplainParts original claim exports) = Unit {0}
IsOfParts job = ⊥

-- the job is one over an original and one export
abbrev pub IsOfExport : Job → Type 0
IsOfExport (Check original export claim) = Unit {0}
IsOfExport (Receipt original export claim) = Unit {0}
IsOfExport (Draft original export) = Unit {0}
IsOfExport (Explain original export claim) = Unit {0}
IsOfExport job = ⊥

-- the job is a check of several exports, also with a receipt or with sentences
abbrev pub IsCheckOfParts : Job → Type 0
IsCheckOfParts (CheckParts original claim exports) = Unit {0}
IsCheckOfParts (ReceiptParts original claim exports) = Unit {0}
IsCheckOfParts (ExplainParts original claim exports) = Unit {0}
IsCheckOfParts job = ⊥

-- the job is the draft of a claim for several exports
abbrev pub IsDraftOfParts : Job → Type 0
IsDraftOfParts (DraftParts original exports) = Unit {0}
IsDraftOfParts job = ⊥

-- the words aren't such a check of several exports
abbrev pub SaysNoCheckOfParts : List (List ℕ) → Type 0
SaysNoCheckOfParts words = (j : Job) → IsCheckOfParts j → ¬ SaysJob words j

-- the words aren't such a draft
abbrev pub SaysNoDraftOfParts : List (List ℕ) → Type 0
SaysNoDraftOfParts words = (j : Job) → IsDraftOfParts j → ¬ SaysJob words j

-- the words aren't such a command over several exports
abbrev pub SaysNoParts : List (List ℕ) → Type 0
SaysNoParts words = (j : Job) → IsOfParts j → ¬ SaysJob words j

-- the words aren't such a command over one export
abbrev pub SaysNoExport : List (List ℕ) → Type 0
SaysNoExport words = (j : Job) → IsOfExport j → ¬ SaysJob words j

-- the words are none of the commands but over exports
abbrev pub SaysNoFile : List (List ℕ) → Type 0
SaysNoFile words = (j : Job) → SaysJob words j → IsOfParts j ⊎ IsOfExport j

-- the words are none of the commands but over several exports
abbrev pub SaysNoOther : List (List ℕ) → Type 0
SaysNoOther words = (j : Job) → SaysJob words j → IsOfParts j

-- no word is empty or begins with a minus
abbrev pub ArePlain : List (List ℕ) → Type 0
ArePlain words = (k : ℕ) → k < length words → (0 < length (slice_index_or words k [])) × (slice_index (slice_index_or words k []) 0 ≢ 45)
