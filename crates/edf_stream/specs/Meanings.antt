-- What a whole file means.
use Rattle.std.specs.Prelude.{◌≡◌, ℕ, List, [], map, None}
use Rattle.edf_header.specs.Heads.{Head}
use Rattle.edf_header.specs.HeadsReading.{head_of}
use Rattle.edf_stream.specs.declared.whole.meaning.Meaning.{Meaning}
use Rattle.edf_stream.specs.Conforming.{Conforms}
use Rattle.edf_stream.specs.Faults.{body_fault, file_fault}
use Rattle.edf_stream.specs.annotation.NotesReading.{notes_of}
use Rattle.edf_stream.specs.samples.SamplesReading.{samples_of}
use Rattle.edf_stream.specs.Views.{note_value}

-- the samples and the annotations of the file with this header
pub record Means (file : List ℕ) (h : Head) (meaning : Meaning) : Type 0 where
  pub samples : meaning.samples.items ≡ samples_of file h
  pub notes : map note_value meaning.notes.items ≡ notes_of file h

-- the data records of a file with this header were read to the end, the file conforms, and this is what it means
pub record IsMeaning (file : List ℕ) (h : Head) (left : List ℕ) (meaning : Meaning) : Type 0 where
  pub conforms : Conforms file h
  pub faultless : body_fault file h ≡ None
  pub means : Means file h meaning
  pub out : left ≡ []

-- a file was read to its end, which conforms, and this is what it means
pub record IsWhole (file left : List ℕ) (meaning : Meaning) : Type 0 where
  pub conforms : Conforms file (head_of file)
  pub faultless : file_fault file ≡ None
  pub means : Means file (head_of file) meaning
  pub out : left ≡ []
