-- A number and a time have one plain spelling.
use Rattle.std.specs.Prelude.{◌≡◌, ℕ, ℤ, Bool, true, not, ◌&&◌, List, [], drop, codes}
use Rattle.std.specs.Str.{bytes_eq}
use Rattle.edf_fields.specs.Parts.{text_of}
use Rattle.edf_fields.specs.texts.Numbers.{has_minus}
use Rattle.edf_fields.specs.texts.NumbersReading.{SpellsHeaderNumber, SpellsWholeNumber}
use Rattle.edf_fields.specs.texts.Onsets.{SpellsOnset}
use Rattle.edf_fields.specs.texts.OnsetsReading.{SpellsSpan}
use Rattle.edf_header.specs.Conforming.{HeaderConforms}
use Rattle.edf_header.specs.Heads.{Head}
use Rattle.edf_layout.specs.HeadLaws.{header_of}
use Rattle.edf_layout.specs.HeadLayouts.{head_layout_of}
use Rattle.edf_layout.specs.HeadReports.{places_of}
use Rattle.edf_layout.specs.PlainNumbers.{is_plain_unsigned, is_plain_number}

-- the text of an onset: 0 has no minus
unfoldable pub is_plain_onset : List ℕ → Bool
is_plain_onset t = is_plain_unsigned (drop 1 t) && not (has_minus t && bytes_eq (drop 1 t) (codes "0"))

-- two fields that spell one number plainly have the same text
abbrev pub OnePlainHeaderNumber : Type 0
OnePlainHeaderNumber = (field other : List ℕ) (v : ℤ) → SpellsHeaderNumber field v → SpellsHeaderNumber other v →
    is_plain_number (text_of field) ≡ true → is_plain_number (text_of other) ≡ true → text_of field ≡ text_of other

abbrev pub OnePlainWholeNumber : Type 0
OnePlainWholeNumber = (field other : List ℕ) (v : ℤ) → SpellsWholeNumber field v → SpellsWholeNumber other v →
    is_plain_number (text_of field) ≡ true → is_plain_number (text_of other) ≡ true → text_of field ≡ text_of other

-- two texts that spell one onset plainly are the same
abbrev pub OnePlainOnset : Type 0
OnePlainOnset = (t u : List ℕ) (v : ℤ) → SpellsOnset t v → SpellsOnset u v → is_plain_onset t ≡ true → is_plain_onset u ≡ true → t ≡ u

-- and so are two texts that spell one duration plainly
abbrev pub OnePlainSpan : Type 0
OnePlainSpan = (t u : List ℕ) (v : ℤ) → SpellsSpan t v → SpellsSpan u v → is_plain_unsigned t ≡ true → is_plain_unsigned u ≡ true → t ≡ u

-- two headers in order that are read as one header, signals and numbers included, and have no place that isn't
-- plain are the same bytes
abbrev pub PlainHeadersAreOne : Type 0
PlainHeadersAreOne = (file other : List ℕ) (h : Head) → HeaderConforms file h → HeaderConforms other h →
    places_of (head_layout_of file h) h ≡ [] → places_of (head_layout_of other h) h ≡ [] → header_of file h ≡ header_of other h
