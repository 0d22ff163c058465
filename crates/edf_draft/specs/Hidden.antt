-- The subfields that an export hides (EDF+, "Additional specifications in EDF+": local patient identification, local recording identification).
use Rattle.std.specs.Prelude.{◌↔◌, ◌⊎◌, List, [], ◌∷◌}
use Rattle.edf_fields.specs.Lists.{Has}
use Rattle.edf_fields.specs.declared.fields.which.Which.{Which}
use Rattle.edf_header.specs.Heads.{Head}
use Rattle.edf_heads.specs.Comparisons.{IsAnonymous, IsUnchanged}

-- the subfield is `X` in the export, and not as in the original
abbrev pub IsHidden : Head → Head → Which → Type 0
IsHidden original export which = IsAnonymous export which × (IsUnchanged original export which → ⊥)

-- it is so in each of several exports
abbrev pub IsHiddenInAll : Head → List Head → Which → Type 0
IsHiddenInAll original [] which = ⊥
IsHiddenInAll original (export ∷ []) which = IsHidden original export which
IsHiddenInAll original (export ∷ next ∷ others) which = IsHidden original export which × IsHiddenInAll original (next ∷ others) which

-- of all subfields, those that were found, and those that are left to be looked at, are the hidden ones
abbrev pub AreLeft : Head → List Head → List Which → List Which → Type 0
AreLeft original exports found rest =
    (which : Which) → (Has found which ⊎ (Has rest which × IsHiddenInAll original exports which)) ↔ IsHiddenInAll original exports which
