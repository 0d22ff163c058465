-- Subfields, as they are read.
use Rattle.std.specs.Prelude.{◌≡◌, ◌≢◌, ℕ, Bool, ◌==◌, nat_lt, ◌-◌, List, length, slice_index, filter}
use Rattle.std.specs.List.{slice_split}
use Rattle.edf_fields.specs.declared.texts.subfields.Subfields.{Subfields}
use Rattle.edf_fields.specs.texts.Subfields.{HasSubfields}

-- the byte is a space
abbrev pub is_space : ℕ → Bool
is_space b = b == 32

-- the parts between the spaces of a text that are not empty; by `FindsSubfields` these are its subfields
unfoldable pub subfields_of : List ℕ → List (List ℕ)
subfields_of t = filter (λ s. nat_lt 0 (length s)) (slice_split is_space t)

-- what the iterator has left
abbrev pub subfields_left : Subfields → List (List ℕ)
subfields_left subfields = subfields_of subfields.rest.now

-- a text has at most one list of subfields
abbrev pub HasOneListOfSubfields : Type 0
HasOneListOfSubfields =
    (t : List ℕ) (xs ys : List (List ℕ)) → HasSubfields t xs → HasSubfields t ys → xs ≡ ys

-- a text that neither begins nor ends with a space has subfields, and they are those of `subfields_of`
abbrev pub FindsSubfields : Type 0
FindsSubfields =
    (t : List ℕ) → slice_index t 0 ≢ 32 → slice_index t (length t - 1) ≢ 32 → HasSubfields t (subfields_of t)
