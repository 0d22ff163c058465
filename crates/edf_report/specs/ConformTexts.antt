-- What `conform` writes of a file.
use Rattle.std.specs.Prelude.{ℕ, ◌*◌, List, [], ◌∷◌, ◌++◌, length, codes}
use Rattle.std.specs.Fmt.{decimal}
use Rattle.edf_header.specs.Heads.{Head, samples_together}
use Rattle.edf_header.specs.HeadsReading.{head_of}
use Rattle.edf_header.specs.signals.Channels.{channels_among}
use Rattle.edf_stream.specs.annotation.NotesReading.{notes_before}
use Rattle.edf_stream.specs.Faults.{file_fault}
use Rattle.edf_report.specs.Reports.{text_or_fault}

-- the line of so many data records, channels, samples and annotations
unfoldable pub counts_line : ℕ → ℕ → ℕ → ℕ → List ℕ
counts_line records channels samples annotations =
    codes "CONFORMS records " ++ (decimal records ++ (codes " channels " ++ (decimal channels
    ++ (codes " samples " ++ (decimal samples ++ (codes " annotations " ++ (decimal annotations ++ (10 ∷ []))))))))

-- how much the file with this header holds
abbrev pub file_counts : List ℕ → Head → List ℕ
file_counts file h =
    counts_line h.records (length (channels_among h.signals)) (h.records * samples_together (channels_among h.signals)) (notes_before file h h.records)

-- the line of how much a file holds, or of its first fault
unfoldable pub conform_text : List ℕ → List ℕ
conform_text file = text_or_fault (file_counts file (head_of file)) (file_fault file)
