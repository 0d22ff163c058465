-- The places of a header that aren't in plain form, a line each.
use Rattle.std.specs.Prelude.{ℕ, Bool, ◌+◌, ◌==◌, nat_lt, List, [], ◌∷◌, ◌++◌, length, filter, codes, if◌then◌else◌}
use Rattle.std.specs.Fmt.{decimal}
use Rattle.std.specs.List.{flat_map}
use Rattle.std.specs.Str.{bytes_eq}
use Rattle.edf_fields.specs.FaultTexts.{place_text}
use Rattle.edf_fields.specs.declared.faults.fault.Place.{Place}
use Rattle.edf_fields.specs.declared.faults.fault.Place.TheVariants.{AtField, AtSignal}
use Rattle.edf_fields.specs.declared.fields.layout.FixedField.{FixedField}
use Rattle.edf_fields.specs.declared.fields.layout.FixedField.TheVariants as fixed
use Rattle.edf_fields.specs.declared.fields.layout.SignalField.TheVariants as signal
use Rattle.edf_layout.specs.HeadLayouts.{SignalLayout, FrontLayout, HeadLayout}
use Rattle.edf_layout.specs.PlainNumbers.{is_plain_number}

-- what is said of a place
unfoldable pub odd_line : Place → List ℕ → List ℕ
odd_line place words = codes "not plain: " ++ (place_text place ++ words)

-- a number that isn't spelled in its plain way
unfoldable pub odd_number : Place → List ℕ → List (List ℕ)
odd_number place text = if is_plain_number text then [] else odd_line place (codes " spells " ++ text) ∷ []

-- more spaces than one stand behind subfield k of a field, counted from 1
abbrev pub odd_space : FixedField → ℕ → ℕ → List (List ℕ)
odd_space field k n =
    if n == 1 then [] else odd_line (AtField field) (codes " has " ++ (decimal n ++ (codes " spaces behind subfield " ++ decimal k))) ∷ []

-- of the spaces behind subfield k and those that follow
abbrev pub odd_spaces : FixedField → ℕ → List ℕ → List (List ℕ)
odd_spaces field k [] = []
odd_spaces field k (n ∷ counts) = odd_space field k n ++ odd_spaces field (k + 1) counts

-- how many of the additional subfields are `X`
abbrev pub untold : List (List ℕ) → ℕ
untold extras = length (filter (λ extra. bytes_eq extra (codes "X")) extras)

-- these words on a place, if they are to be said
abbrev pub words_if : Bool → Place → List ℕ → List (List ℕ)
words_if is_said place words = if is_said then odd_line place words ∷ [] else []

-- more than one of these additional subfields is `X`
abbrev pub odd_extras : FixedField → List (List ℕ) → List (List ℕ)
odd_extras field extras =
    words_if (nat_lt 1 (untold extras)) (AtField field) (codes " has more than one additional subfield X")

-- the numbers of signal s
unfoldable pub odd_signal : ℕ → SignalLayout → List (List ℕ)
odd_signal s l =
    odd_number (AtSignal s signal.PhysicalMinimum) l.physical_minimum
    ++ (odd_number (AtSignal s signal.PhysicalMaximum) l.physical_maximum
    ++ (odd_number (AtSignal s signal.DigitalMinimum) l.digital_minimum
    ++ (odd_number (AtSignal s signal.DigitalMaximum) l.digital_maximum
    ++ odd_number (AtSignal s signal.Samples) l.samples)))

-- those of these signals, the first of which is signal s
abbrev pub odd_signals : ℕ → List SignalLayout → List (List ℕ)
odd_signals s [] = []
odd_signals s (l ∷ ls) = odd_signal s l ++ odd_signals (s + 1) ls

-- the numbers of the fixed part
unfoldable pub odd_numbers : FrontLayout → List (List ℕ)
odd_numbers l =
    odd_number (AtField fixed.HeaderBytes) l.size
    ++ (odd_number (AtField fixed.Records) l.records
    ++ (odd_number (AtField fixed.Duration) l.duration
    ++ odd_number (AtField fixed.Signals) l.count))

-- an identification with these spaces between its subfields, and these additional subfields
unfoldable pub odd_identification : FixedField → List ℕ → List (List ℕ) → List (List ℕ)
odd_identification field counts extras = odd_spaces field 1 counts ++ odd_extras field extras

-- the fixed part with this layout and these additional subfields
unfoldable pub odd_front : FrontLayout → List (List ℕ) → List (List ℕ) → List (List ℕ)
odd_front l patient recording =
    odd_identification fixed.Patient l.patient_spaces patient
    ++ (odd_identification fixed.Recording l.recording_spaces recording
    ++ odd_numbers l)

-- a header with this layout and these additional subfields
unfoldable pub odd_places : HeadLayout → List (List ℕ) → List (List ℕ) → List (List ℕ)
odd_places l patient recording = odd_front l.front patient recording ++ odd_signals 0 l.signals

-- the lines of these places, each with its end
abbrev pub place_lines : List (List ℕ) → List ℕ
place_lines lines = flat_map (λ line. line ++ (10 ∷ [])) lines
