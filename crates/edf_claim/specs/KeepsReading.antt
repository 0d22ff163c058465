-- What a claim keeps, as it is asked for.
use Rattle.std.specs.Prelude.{◌≡◌, ◌⊎◌, map, ℕ, ℤ, pos, ◌*ℤ◌, ◌≤ℤ◌, ◌<ℤ◌, int_le, int_lt, List, [], ◌∷◌, ◌++◌, ◌-◌, ◌&&◌, Bool, false, length, take, slice_get}
use Rattle.std.specs.Option.{option_map_or}
use Rattle.std.specs.Cmp.Lexicographic.{slice_cmp}
use Rattle.std.specs.Global.{Vec}
use Rattle.std.specs.List.{All, list_any}
use Rattle.std.specs.List.Sorted.{IsSorted, IsSortedBy}
use Rattle.std.specs.Ordering.{nat_cmp}
use Rattle.std.specs.Str.{bytes_eq}
use Rattle.edf_claim.specs.Claims.{IsInterval, AreInOrder}
use Rattle.edf_claim.specs.ClaimValues.{ClaimValue}
use Rattle.edf_fields.specs.Lists.{Has, is_one_of}
use Rattle.edf_claim.specs.declared.kept.interval.Interval.{Interval}

-- the instant num / den, in picoseconds, is in the interval
abbrev pub is_within : Interval → ℤ → ℕ → Bool
is_within interval num den = int_le (interval.from_ps *ℤ pos den) num && int_lt num (interval.to_ps *ℤ pos den)

-- `is_within` in words: from its first bound on, and before its second
abbrev pub IsWithin : Interval → ℤ → ℕ → Type 0
IsWithin interval num den = ((interval.from_ps *ℤ pos den) ≤ℤ num) × (num <ℤ (interval.to_ps *ℤ pos den))

-- `keeps_instant` in words: the instant num / den, in picoseconds after the second at which the original starts, is in one of the kept intervals
abbrev pub KeepsInstant : ClaimValue → ℤ → ℕ → Type 0
KeepsInstant c num den = (interval : Interval) × Has c.keep interval × IsWithin interval num den

-- the text begins with the prefix, byte for byte
abbrev pub begins_with : List ℕ → List ℕ → Bool
begins_with prefix text = bytes_eq prefix (take (length prefix) text)

-- intervals as a claim keeps them, in order
pub record AreKept (intervals : List Interval) : Type 0 where
  pub each : All IsInterval intervals
  pub in_order : AreInOrder intervals

-- none of the texts begins with the one before it
abbrev pub AreApart : List (Vec ℕ) → Type 0
AreApart = IsSortedBy (λ text before. begins_with before.items text.items)

-- the text begins with the last of these, if there are any
abbrev pub begins_with_last : List (Vec ℕ) → List ℕ → Bool
begins_with_last prefixes text = option_map_or (λ last. begins_with last.items text) (slice_get prefixes (length prefixes - 1)) false

-- the same texts, in the order of their bytes
pub record IsIndex (texts : List (List ℕ)) (sorted : List (Vec ℕ)) : Type 0 where
  pub order : IsSorted (λ x y. slice_cmp nat_cmp x.items y.items) sorted
  pub same : (text : List ℕ) → is_one_of (map (λ t. t.items) sorted) text ≡ is_one_of texts text

-- prefixes in the order of their bytes, of which none begins with the one before it: a text begins with one of these exactly where it begins with one of the texts
pub record IsPrefixIndex (texts : List (List ℕ)) (sorted : List (Vec ℕ)) : Type 0 where
  pub order : IsSorted (λ x y. slice_cmp nat_cmp x.items y.items) sorted
  pub apart : AreApart sorted
  pub same : (text : List ℕ) → list_any (λ prefix. begins_with prefix text) (map (λ t. t.items) sorted) ≡ list_any (λ prefix. begins_with prefix text) texts

-- `begins_with` in words
abbrev pub BeginsWith : List ℕ → List ℕ → Type 0
BeginsWith prefix text = (rest : List ℕ) × (text ≡ prefix ++ rest)

-- `removes` in words: the text is one of the claim's, or begins with one of its prefixes
abbrev pub Removes : ClaimValue → List ℕ → Type 0
Removes c text = Has c.remove text ⊎ ((prefix : List ℕ) × Has c.remove_prefix prefix × BeginsWith prefix text)

-- `keeps_annotation` in words: its onset is in one of the kept intervals, and its text isn't removed
abbrev pub KeepsAnnotation : ClaimValue → ℤ → List ℕ → Type 0
KeepsAnnotation c onset text = KeepsInstant c onset 1 × (Removes c text → ⊥)

-- the text of a kept annotation is blanked
abbrev pub Blanks : ClaimValue → List ℕ → Type 0
Blanks c text = Has c.blank text

-- `Blanks` as a test
abbrev pub blanks : ClaimValue → List ℕ → Bool
blanks c text = is_one_of c.blank text

-- b doesn't lie between t and u, but may be one of them
abbrev pub IsOutside : ℤ → ℤ → ℤ → Type 0
IsOutside t u b = (b ≤ℤ t) ⊎ (u ≤ℤ b)

-- none of the intervals begins or ends between t and u
abbrev pub IsUncut : List Interval → ℤ → ℤ → Type 0
IsUncut [] t u = Unit {0}
IsUncut (interval ∷ intervals) t u = IsOutside t u interval.from_ps × IsOutside t u interval.to_ps × IsUncut intervals t u

-- one of the intervals begins or ends at b
abbrev pub HasBorder : List Interval → ℤ → Type 0
HasBorder intervals b = (interval : Interval) × Has intervals interval × ((interval.from_ps ≡ b) ⊎ (interval.to_ps ≡ b))
