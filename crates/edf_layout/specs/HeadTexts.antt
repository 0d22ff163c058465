-- The lines of the layout of a header.
use Rattle.std.specs.Prelude.{ℕ, ◌+◌, ◌-◌, List, [], ◌∷◌, ◌++◌, length, codes}
use Rattle.std.specs.Fmt.{decimal}
use Rattle.std.specs.List.{flat_map}
use Rattle.edf_verdict.specs.Quotes.{with_quoted}
use Rattle.edf_layout.specs.HeadLayouts.{SignalLayout, FrontLayout, HeadLayout}

-- a line: a word, a space and a text
unfoldable pub word_line : List ℕ → List ℕ → List ℕ
word_line word text = word ++ (32 ∷ (text ++ (10 ∷ [])))

-- each number behind a space
abbrev pub spaces_text : List ℕ → List ℕ
spaces_text counts = flat_map (λ n. 32 ∷ decimal n) counts

-- a line: a word, and how many spaces stand behind each subfield but the last one
unfoldable pub spaces_line : List ℕ → List ℕ → List ℕ
spaces_line word counts = word ++ (codes " spaces" ++ (spaces_text counts ++ (10 ∷ [])))

-- a line: a word, and how many additional subfields there are, where a field has n without them
unfoldable pub added_line : List ℕ → ℕ → List ℕ → List ℕ
added_line word n counts = word ++ (codes " added " ++ (decimal (length counts + 1 - n) ++ (10 ∷ [])))

-- a word, and two texts
unfoldable pub two_texts : List ℕ → List ℕ → List ℕ → List ℕ
two_texts word first second = word ++ (first ++ (32 ∷ second))

-- the extremes of a signal, as they are spelled
unfoldable pub extremes_text : SignalLayout → List ℕ
extremes_text l =
    two_texts (codes " physical ") l.physical_minimum l.physical_maximum ++ two_texts (codes " digital ") l.digital_minimum l.digital_maximum

-- the line of signal s
unfoldable pub signal_line : ℕ → SignalLayout → List ℕ
signal_line s l =
    codes "signal " ++ (decimal s ++ (codes " samples " ++ (l.samples ++ (extremes_text l ++ (with_quoted (codes " label ") l.label ++ (10 ∷ []))))))

-- the lines of these signals, the first of which is signal s
abbrev pub signal_lines : ℕ → List SignalLayout → List ℕ
signal_lines s [] = []
signal_lines s (l ∷ ls) = signal_line s l ++ signal_lines (s + 1) ls

-- the kind; the duration of a data record and how many there are
unfoldable pub course_lines : FrontLayout → List ℕ
course_lines l = word_line (codes "kind") l.kind ++ (word_line (codes "duration") l.duration ++ word_line (codes "records") l.records)

-- the size of the header and the count of signals
unfoldable pub size_lines : FrontLayout → List ℕ
size_lines l = word_line (codes "size") l.size ++ word_line (codes "signals") l.count

-- an identification: how many additional subfields it has, and the spaces between its subfields
unfoldable pub identification_lines : List ℕ → ℕ → List ℕ → List ℕ
identification_lines word n counts = added_line word n counts ++ spaces_line word counts

-- the lines of the layout of the fixed part
unfoldable pub front_lines : FrontLayout → List ℕ
front_lines l =
    course_lines l
    ++ (size_lines l
    ++ (identification_lines (codes "patient") 4 l.patient_spaces
    ++ identification_lines (codes "recording") 5 l.recording_spaces))

-- the lines of the layout of a header
unfoldable pub head_lines : HeadLayout → List ℕ
head_lines l = front_lines l.front ++ signal_lines 0 l.signals
