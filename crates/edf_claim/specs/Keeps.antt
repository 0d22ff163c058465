-- What a claim keeps.
use Rattle.std.specs.Prelude.{ℕ, ℤ, pos, ◌*ℤ◌, int_le, int_lt, not, ◌&&◌, ◌||◌, Bool, if◌then◌else◌, codes, List, length, take}
use Rattle.std.specs.Str.{bytes_eq}
use Rattle.std.specs.List.{list_any}
use Rattle.edf_claim.specs.ClaimValues.{ClaimValue}
use Rattle.edf_fields.specs.Lists.{is_one_of}

-- the instant num / den, in picoseconds after the second at which the original starts, is in one of the kept intervals: from its first bound on, and before its second
abbrev pub keeps_instant : ClaimValue → ℤ → ℕ → Bool
keeps_instant c num den =
    list_any (λ interval. int_le (interval.from_ps *ℤ pos den) num && int_lt num (interval.to_ps *ℤ pos den)) c.keep

-- annotations with this text are removed: it is one of the texts of the claim, or begins with one of its prefixes, byte for byte
abbrev pub removes : ClaimValue → List ℕ → Bool
removes c text =
    is_one_of c.remove text
    || list_any (λ prefix. bytes_eq prefix (take (length prefix) text)) c.remove_prefix

-- an annotation with this onset, in picoseconds after the second at which the original starts, and this text is kept: its onset is in one of the kept intervals, and its text isn't removed
abbrev pub keeps_annotation : ClaimValue → ℤ → List ℕ → Bool
keeps_annotation c onset text = keeps_instant c onset 1 && not (removes c text)

-- what stands in an export in the place of a kept annotation's text: `X` where the claim blanks the text, and else the text itself
abbrev pub kept_text : ClaimValue → List ℕ → List ℕ
kept_text c text = if is_one_of c.blank text then codes "X" else text
