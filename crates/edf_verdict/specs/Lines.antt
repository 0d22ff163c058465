-- The line of text of a verdict, and the number of a difference in it.
use Rattle.std.specs.Prelude.{ℕ, ℤ, List, [], ◌∷◌, ◌++◌, Option, codes}
use Rattle.std.specs.Fmt.{decimal, signed_decimal}
use Rattle.edf_fields.specs.fields.SubfieldNames.{name_of}
use Rattle.edf_fields.specs.declared.fields.which.Which.{Which}
use Rattle.edf_fields.specs.FaultTexts.{fault_text}
use Rattle.edf_verdict.specs.declared.verdict.AnnotationMismatch.{AnnotationMismatch}
use Rattle.edf_verdict.specs.declared.verdict.AnnotationMismatch.TheVariants as notes
use Rattle.edf_verdict.specs.declared.verdict.Difference.{Difference}
use Rattle.edf_verdict.specs.declared.verdict.Difference.TheVariants.{OriginalFault, ExportFault, UnknownChannel, MissingChannel, ExtraChannel, ChannelText, Calibration, Subfield, NotClean, PartOrder, Sample, Annotation}
use Rattle.edf_verdict.specs.declared.verdict.FreeText.{FreeText}
use Rattle.edf_verdict.specs.declared.verdict.FreeText.TheVariants.{Header, Channel}
use Rattle.edf_verdict.specs.declared.verdict.SampleMismatch.{SampleMismatch}
use Rattle.edf_verdict.specs.declared.verdict.SampleMismatch.TheVariants as samples
use Rattle.edf_verdict.specs.declared.verdict.SubfieldMismatch.{SubfieldMismatch}
use Rattle.edf_verdict.specs.declared.verdict.SubfieldMismatch.TheVariants.{NotX, Changed}
use Rattle.edf_verdict.specs.declared.verdict.TextField.{TextField}
use Rattle.edf_verdict.specs.declared.verdict.TextField.TheVariants.{Transducer, Prefilter}
use Rattle.edf_verdict.specs.declared.verdict.Verdict.{Verdict}
use Rattle.edf_verdict.specs.declared.verdict.Verdict.TheVariants.{Yes, No}
use Rattle.edf_verdict.specs.NoteTimes.{note_times}
use Rattle.edf_verdict.specs.Quotes.{with_quoted}

-- which of the kinds of differences it is
abbrev pub number_of : Difference → ℕ
number_of (OriginalFault fault) = 1
number_of (ExportFault fault) = 2
number_of (UnknownChannel label) = 3
number_of (MissingChannel label) = 4
number_of (ExtraChannel label) = 5
number_of (ChannelText label field) = 6
number_of (Calibration label) = 7
number_of (Subfield which mismatch) = 8
number_of (NotClean text) = 9
number_of (Sample label at_ps mismatch) = 10
number_of (Annotation mismatch onset duration text) = 11
number_of PartOrder = 12

-- which text of a channel
abbrev pub field_text : TextField → List ℕ
field_text Transducer = codes "transducer"
field_text Prefilter = codes "prefilter"

-- a difference of a channel's texts
abbrev pub channel_text : List ℕ → TextField → List ℕ
channel_text label field = with_quoted (codes "channel text ") label ++ (codes " " ++ field_text field)

-- how a subfield isn't as claimed
abbrev pub subfield_mismatch_text : SubfieldMismatch → List ℕ
subfield_mismatch_text NotX = codes "not X"
subfield_mismatch_text Changed = codes "changed"

-- a difference of subfields, by the name that a claim gives the subfield
abbrev pub subfield_text : Which → SubfieldMismatch → List ℕ
subfield_text which mismatch = codes "subfield " ++ (name_of which ++ (codes " " ++ subfield_mismatch_text mismatch))

-- where the export has free text
abbrev pub not_clean_text : FreeText → List ℕ
not_clean_text Header = codes "not clean header"
not_clean_text (Channel label) = with_quoted (codes "not clean ") label

-- how the samples at an instant differ
abbrev pub sample_mismatch_text : SampleMismatch → List ℕ
sample_mismatch_text samples.Missing = codes "missing"
sample_mismatch_text samples.Extra = codes "extra"
sample_mismatch_text (samples.Value original export) = codes "original " ++ (signed_decimal original ++ (codes " export " ++ signed_decimal export))

-- the instant in picoseconds, and how the samples there differ
unfoldable pub moment_text : ℤ → SampleMismatch → List ℕ
moment_text at_ps mismatch = codes " at " ++ (signed_decimal at_ps ++ (codes " ps " ++ sample_mismatch_text mismatch))

-- a difference of samples
abbrev pub sample_text : List ℕ → ℤ → SampleMismatch → List ℕ
sample_text label at_ps mismatch = with_quoted (codes "sample ") label ++ moment_text at_ps mismatch

-- how often an annotation stands in the export
abbrev pub note_mismatch_text : AnnotationMismatch → List ℕ
note_mismatch_text notes.Missing = codes "missing"
note_mismatch_text notes.Extra = codes "extra"

-- the words in front of an annotation's text: how often it stands in the export, its onset and its duration
unfoldable pub note_words : AnnotationMismatch → ℤ → Option ℤ → List ℕ
note_words mismatch onset duration =
    codes "annotation " ++ (note_mismatch_text mismatch ++ (codes " at " ++ (note_times onset duration ++ codes " text ")))

-- the kind of a difference, and what it is about
abbrev pub what_text : Difference → List ℕ
what_text (OriginalFault fault) = codes "original fault: " ++ fault_text fault
what_text (ExportFault fault) = codes "export fault: " ++ fault_text fault
what_text (UnknownChannel label) = with_quoted (codes "unknown channel ") label
what_text (MissingChannel label) = with_quoted (codes "missing channel ") label
what_text (ExtraChannel label) = with_quoted (codes "extra channel ") label
what_text (ChannelText label field) = channel_text label field
what_text (Calibration label) = with_quoted (codes "calibration ") label
what_text (Subfield which mismatch) = subfield_text which mismatch
what_text (NotClean text) = not_clean_text text
what_text PartOrder = codes "starts early"
what_text (Sample label at_ps mismatch) = sample_text label at_ps mismatch
what_text (Annotation mismatch onset duration text) = with_quoted (note_words mismatch onset duration) text

-- NO, and a number
unfoldable pub no_text : ℕ → List ℕ
no_text number = codes "NO " ++ (decimal number ++ codes " ")

-- a difference in words: NO, its number, its kind, and what it is about
abbrev pub difference_text : Difference → List ℕ
difference_text difference = no_text (number_of difference) ++ what_text difference

-- what was compared
abbrev pub counts_text : ℕ → ℕ → ℕ → List ℕ
counts_text channels samples annotations =
    codes "YES channels " ++ (decimal channels ++ (codes " samples " ++ (decimal samples ++ (codes " annotations " ++ decimal annotations))))

-- a verdict in words
abbrev pub verdict_text : Verdict → List ℕ
verdict_text (Yes channels samples annotations) = counts_text channels samples annotations
verdict_text (No difference) = difference_text difference

-- the verdict as one line, with its end
abbrev pub verdict_line : Verdict → List ℕ
verdict_line verdict = verdict_text verdict ++ (10 ∷ [])
