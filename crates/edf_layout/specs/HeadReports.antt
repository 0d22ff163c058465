-- What is written of the layout of a header.
use Rattle.std.specs.Prelude.{◌≡◌, ℕ, ◌==◌, List, [], ◌∷◌, ◌++◌, length, codes, if◌then◌else◌, Option, None, Some, IsTrue}
use Rattle.std.specs.Fmt.{decimal}
use Rattle.edf_fields.specs.declared.faults.fault.Fault.{Fault}
use Rattle.edf_fields.specs.declared.in_out.source.Source.{Ghosts}
use Rattle.edf_header.specs.Faults.{header_fault}
use Rattle.edf_header.specs.Heads.{Head}
use Rattle.edf_header.specs.HeadsReading.{head_of}
use Rattle.edf_report.specs.Reports.{text_or_fault}
use Rattle.edf_verdict.specs.declared.outcome.Outcome.{Outcome}
use Rattle.edf_verdict.specs.declared.outcome.Outcome.TheVariants.{Yes, No}
use Rattle.edf_layout.specs.HeadLayouts.{HeadLayout, head_layout_of}
use Rattle.edf_layout.specs.HeadTexts.{head_lines}
use Rattle.edf_layout.specs.OddPlaces.{odd_places, place_lines}

-- the last line: whether the header is plain, or how many places aren't
unfoldable pub last_line : ℕ → List ℕ
last_line n = if n == 0 then codes "HEADER PLAIN" ++ (10 ∷ []) else codes "HEADER NOT PLAIN " ++ (decimal n ++ (10 ∷ []))

-- Yes where no place isn't plain
abbrev pub plain_outcome : ℕ → Outcome
plain_outcome n = if n == 0 then Yes else No

-- the text of these lines and of these places
unfoldable pub laid_out : List ℕ → List (List ℕ) → List ℕ
laid_out lines places = lines ++ (place_lines places ++ last_line (length places))

-- the places of a header with this layout that aren't plain
abbrev pub places_of : HeadLayout → Head → List (List ℕ)
places_of layout h = odd_places layout h.patient.extras h.recording.extras

-- the text of a layout
abbrev pub layout_report : HeadLayout → Head → List ℕ
layout_report layout h = laid_out (head_lines layout) (places_of layout h)

-- the outcome of a fault, and where there is none, of a layout
abbrev pub outcome_by : Option Fault → ℕ → Outcome
outcome_by None n = plain_outcome n
outcome_by (Some fault) n = No

-- the lines of the layout of the header of a file, or the line of its first fault
unfoldable pub head_layout_text : List ℕ → List ℕ
head_layout_text file = text_or_fault (layout_report (head_layout_of file (head_of file)) (head_of file)) (header_fault file)

-- Yes exactly where the header has no fault and is plain
unfoldable pub head_layout_outcome : List ℕ → Outcome
head_layout_outcome file = outcome_by (header_fault file) (length (places_of (head_layout_of file (head_of file)) (head_of file)))

-- this is the text of what an honest source has left, and its outcome
abbrev pub IsLayoutReport : {S : Type 0} → Ghosts S → S → List ℕ → Outcome → Type 0
IsLayoutReport source s text outcome =
    IsTrue (source.is_honest s) → (text ≡ head_layout_text (source.left s)) × (outcome ≡ head_layout_outcome (source.left s))
