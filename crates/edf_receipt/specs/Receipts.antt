-- The text of a receipt.
use Rattle.std.specs.Prelude.{ℕ, List, [], ◌∷◌, ◌+◌, ◌++◌, codes, length}
use Rattle.std.specs.Fmt.{decimal}
use Rattle.std.specs.List.{flat_map}
use Rattle.hex.specs.Hex.{encode_lower}
use Rattle.sha2.specs.Sha256.{sha256}
use Rattle.edf_receipt.specs.declared.file_line.FileLine.{FileLine}
use Rattle.edf_receipt.specs.declared.file_line.ReceiptFile.{ReceiptFile}
use Rattle.edf_receipt.specs.declared.file_line.ReceiptFile.TheVariants.{Original, Export, Part, Claim}

-- how a receipt names a file
abbrev pub file_name : ReceiptFile → List ℕ
file_name Original = codes "original"
file_name Export = codes "export"
file_name (Part part) = codes "part " ++ decimal part
file_name Claim = codes "claim"

-- a file with its digest, in hexadecimal digits, and the number of its bytes
unfoldable pub file_words : FileLine → List ℕ
file_words line = file_name line.file ++ (codes " sha256 " ++ (encode_lower line.digested.sha256 ++ (codes " bytes " ++ decimal line.digested.bytes)))

-- the same as a line, with its end
abbrev pub file_line : FileLine → List ℕ
file_line line = file_words line ++ (10 ∷ [])

-- which program says it
abbrev pub version_line : List ℕ → List ℕ
version_line version = (codes "edfclaim " ++ version) ++ (10 ∷ [])

-- the program, the files, and the line of the verdict
abbrev pub receipt : List ℕ → List FileLine → List ℕ → List ℕ
receipt version files line = version_line version ++ (flat_map file_line files ++ line)

-- a file of these bytes: SHA-256 (FIPS 180-4), and how many they are
abbrev pub line_of : ReceiptFile → List ℕ → FileLine
line_of file whole = record { file = file; digested = record { bytes = length whole; sha256 = sha256 whole } }

-- several exports, of which the first has the number j
abbrev pub part_lines : ℕ → List (List ℕ) → List FileLine
part_lines j [] = []
part_lines j (whole ∷ wholes) = line_of (Part j) whole ∷ part_lines (j + 1) wholes

-- the files of a check: the original, these exports, and the claim
abbrev pub files_of : List ℕ → List FileLine → List ℕ → List FileLine
files_of original exports text = line_of Original original ∷ (exports ++ (line_of Claim text ∷ []))
