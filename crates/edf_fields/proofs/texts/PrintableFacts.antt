-- Printable bytes, as a test and in words.
use Rattle.std.proofs.Common.{◌≡◌, ◌↔◌, ℕ, ◌≤◌, Bool, true, List, refl, sym, ◌∙◌}
use Rattle.std.specs.Bool.{Decides}
use Rattle.std.specs.List.{list_all}
use Rattle.std.proofs.lemmas.Bool.Decides.{Decides-and, Decides-by_and}
use Rattle.edf_fields.specs.texts.Printable.{IsPrintable}
use Rattle.edf_fields.specs.texts.PrintableReading.{is_printable}
use Rattle.edf_fields.proofs.texts.DateFacts.{le_decided}

pub printable_decided : (field : List ℕ) → Decides (list_all is_printable field) (IsPrintable field)
printable_decided field =
    Decides-by_and is_printable (λ b. (32 ≤ b) × (b ≤ 126)) (list_all is_printable)
    (λ b. Decides-and _ _ (le_decided 32 b) (le_decided b 126)) refl (λ _ _. refl) field

pub printable_said : (field : List ℕ) (b : Bool) → b ≡ list_all is_printable field → (b ≡ true) ↔ IsPrintable field
printable_said field b e = (λ h. (printable_decided field).0 (sym e ∙ h), λ h. e ∙ (printable_decided field).1 h)
