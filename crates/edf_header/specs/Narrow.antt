-- How the columns of a header are kept: no field has the spaces at its end that all fields of its column have.
use Rattle.std.specs.Prelude.{◌≡◌, ℕ, zero, suc, ◌-◌, ◌*◌, ◌≤◌, List, [], ◌∷◌, ◌++◌, length, take, drop, replicate, max}
use Rattle.std.specs.List.{list_all}
use Rattle.edf_fields.specs.Parts.{text_of}
use Rattle.edf_fields.specs.texts.PrintableReading.{is_printable}
use Rattle.edf_fields.specs.declared.fields.layout.SignalField.{SignalField}
use Rattle.edf_fields.specs.fields.LayoutReading.{column_width}

-- how long the longest text is, of m fields of w bytes each, one behind the other
abbrev pub longest_text : ℕ → ℕ → List ℕ → ℕ
longest_text w zero bytes = 0
longest_text w (suc m) bytes = max (length (text_of (take w bytes))) (longest_text w m (drop w bytes))

-- the first d bytes of each of m fields of w bytes
abbrev pub narrowed : ℕ → ℕ → ℕ → List ℕ → List ℕ
narrowed w d zero bytes = []
narrowed w d (suc m) bytes = take d bytes ++ narrowed w d m (drop w bytes)

-- m fields of d bytes, each filled with spaces to w bytes
abbrev pub widened : ℕ → ℕ → ℕ → List ℕ → List ℕ
widened w d zero bytes = []
widened w d (suc m) bytes = (take d bytes ++ replicate (w - d) 32) ++ widened w d m (drop d bytes)

-- a column as it stands in the file: how many fields, how many bytes each of them has, and the bytes
pub record WideColumn : Type 0 where
  pub width : ℕ
  pub count : ℕ
  pub bytes : List ℕ

-- columns as they stand in the file: how many fields each of them has, and the bytes, column behind column
pub record WideColumns : Type 0 where
  pub signals : ℕ
  pub bytes : List ℕ

-- the bytes of columns, one behind the other
abbrev pub all_bytes : List WideColumn → List ℕ
all_bytes [] = []
all_bytes (column ∷ columns) = column.bytes ++ all_bytes columns

-- these are the columns of these fields, of n signals
abbrev pub AreColumns : ℕ → List SignalField → List WideColumn → Type 0
AreColumns n [] [] = Unit {0}
AreColumns n [] (column ∷ columns) = ⊥
AreColumns n (field ∷ fields) [] = ⊥
AreColumns n (field ∷ fields) (column ∷ columns) =
    ((column.width ≡ column_width field) × (column.count ≡ n) × (length column.bytes ≡ column_width field * n)) × AreColumns n fields columns

-- a field without some of the spaces at its end says what the whole field says
pub record SaysTheSame (front field : List ℕ) : Type 0 where
  pub text : text_of front ≡ text_of field
  pub printable : list_all is_printable front ≡ list_all is_printable field
  pub within : length front ≤ length field
