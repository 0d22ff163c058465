-- Whether a text stands among some words, and that they are no command.
use Rattle.std.proofs.Common.{◌≡◌, ℕ, ◌<◌, List, [], Bool, true, false, length, map, get_or, arith, refl, sym, Option, None, Some, IfNone, ◌∙◌, ◌⊎◌, inl, inr}
use Rattle.std.proofs.lemmas.List.{length-map, get_or-map}
use Rattle.std.proofs.lemmas.Slice.Eq.{bytes_eq-Decides}
use Rattle.std.specs.Bool.{Decides}
use Rattle.std.specs.Borrow.{Bor}
use Rattle.std.specs.List.{Contains, IsAnyAnswer}
use Rattle.std.specs.Str.{bytes_eq}
use Rattle.edf_jobs.specs.Jobs.{IsCheckOfParts, IsOfExport, IsOfParts, IsDraftOfParts, SaysNoCheckOfParts, SaysNoExport, SaysNoFile, SaysNoParts, SaysNoJob, SaysNoOther, SaysNoDraftOfParts}
use Rattle.edf_jobs.specs.declared.jobs.Job.{Job}
use Rattle.edf_jobs.specs.declared.jobs.Job.TheVariants.{Check, CheckParts, Receipt, ReceiptParts, Draft, DraftParts, Explain, ExplainParts, Conform, Show, Notes, Read, Layout, Claim, Vectors}

abbrev no_word : Bor (List ℕ)
no_word = record { ref_ptr = (0, 0); now = [] }

-- a word's text is at its place in the list of texts
text_at : (ws : List (Bor (List ℕ))) (k : ℕ) (t : List ℕ) → k < length ws → get_or (map (λ w. w.now) ws) k t ≡ (get_or ws k no_word).now
text_at ws k t within = get_or-map (λ w. w.now) ws k no_word t within

as_many : (ws : List (Bor (List ℕ))) → length (map (λ w. w.now) ws) ≡ length ws
as_many ws = length-map ws (λ w. w.now)

-- what `contains` answers
pub contains_text : (ws : List (Bor (List ℕ))) (t : List ℕ) (r : Bool) → IsAnyAnswer (λ w b. bytes_eq w.now t ≡ b) ws r
    → Decides r (Contains (map (λ w. w.now) ws) t)
contains_text ws t true found = (
  (λ _. let many = as_many ws in
      (found.0, omega (arith, many, found.1), text_at ws found.0 t found.1 ∙ (bytes_eq-Decides (get_or ws found.0 no_word).now t).0 (found.2 no_word))),
  (λ _. refl),
)
contains_text ws t false none = (
  (λ e. absurd cc),
  (λ at. let many = as_many ws in
      let within : at.0 < length ws = omega (arith, many, at.1) in
      sym (none at.0 no_word (omega arith) within)
      ∙ (bytes_eq-Decides (get_or ws at.0 no_word).now t).1 (sym (text_at ws at.0 t within) ∙ at.2)),
)

-- a command over several exports is a check of them, or the draft of a claim for them
kind_of_parts : (j : Job) → IsOfParts j → IsCheckOfParts j ⊎ IsDraftOfParts j
kind_of_parts (CheckParts o c es) is = inl tt
kind_of_parts (ReceiptParts o c es) is = inl tt
kind_of_parts (DraftParts o es) is = inr tt
kind_of_parts (ExplainParts o c es) is = inl tt
kind_of_parts (Check o e c) is = absurd is
kind_of_parts (Receipt o e c) is = absurd is
kind_of_parts (Draft o e) is = absurd is
kind_of_parts (Explain o e c) is = absurd is
kind_of_parts (Conform f) is = absurd is
kind_of_parts (Show f) is = absurd is
kind_of_parts (Notes f) is = absurd is
kind_of_parts (Read f) is = absurd is
kind_of_parts (Layout f) is = absurd is
kind_of_parts (Claim f) is = absurd is
kind_of_parts Vectors is = absurd is

neither : (a b c : Type 0) → a ⊎ b → (a → c) → (b → c) → c
neither a b c (inl x) f g = f x
neither a b c (inr y) f g = g y

-- the words are none over several exports where they are neither
pub no_parts : (words : List (List ℕ)) (found : Option Job) → SaysNoCheckOfParts words → IfNone found (SaysNoDraftOfParts words)
    → IfNone found (SaysNoParts words)
no_parts words None no_check no_words = λ j is says.
    neither (IsCheckOfParts j) (IsDraftOfParts j) ⊥ (kind_of_parts j is) (λ check. no_check j check says) (λ more. no_words j more says)
no_parts words (Some job) no_check no_words = no_words

-- the words are no command where they are neither one over several exports nor one of the others
pub no_job : (words : List (List ℕ)) (found : Option Job) → SaysNoParts words → IfNone found (SaysNoOther words) → IfNone found (SaysNoJob words)
no_job words None no_parts no_other = λ j says. no_parts j (no_other j says) says
no_job words (Some job) no_parts no_other = no_other

either_parts : (a b : Type 0) → (b → ⊥) → a ⊎ b → a
either_parts a b never (inl x) = x
either_parts a b never (inr y) = absurd (never y)

-- they are none but over several exports where they are neither one over one export nor one of the others
pub no_other : (words : List (List ℕ)) (found : Option Job) → SaysNoExport words → IfNone found (SaysNoFile words) → IfNone found (SaysNoOther words)
no_other words None no_export no_file = λ j says. either_parts (IsOfParts j) (IsOfExport j) (λ is. no_export j is says) (no_file j says)
no_other words (Some job) no_export no_file = no_file
