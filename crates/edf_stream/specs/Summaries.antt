-- How much a file holds.
use Rattle.std.specs.Prelude.{◌≡◌, ℕ, ◌*◌, List, [], length, None}
use Rattle.edf_header.specs.signals.Channels.{channels_among}
use Rattle.edf_header.specs.Heads.{Head, samples_together}
use Rattle.edf_header.specs.HeadsReading.{head_of}
use Rattle.edf_stream.specs.declared.whole.conform.Summary.{Summary}
use Rattle.edf_stream.specs.annotation.NotesReading.{notes_before}
use Rattle.edf_stream.specs.Faults.{file_fault}
use Rattle.edf_stream.specs.Conforming.{Conforms}

-- data records, channels, samples of all channels, and annotations of the file with this header
pub record IsSummary (file : List ℕ) (h : Head) (summary : Summary) : Type 0 where
  pub records : summary.records ≡ h.records
  pub channels : summary.channels ≡ length (channels_among h.signals)
  pub samples : summary.samples ≡ h.records * samples_together (channels_among h.signals)
  pub annotations : summary.annotations ≡ notes_before file h h.records

-- a file was read to its end, which conforms, and this is how much it holds
pub record IsSummed (file left : List ℕ) (summary : Summary) : Type 0 where
  pub conforms : Conforms file (head_of file)
  pub faultless : file_fault file ≡ None
  pub holds : IsSummary file (head_of file) summary
  pub out : left ≡ []
