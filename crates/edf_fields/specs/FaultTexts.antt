-- Faults in words.
use Rattle.std.specs.Prelude.{ℕ, List, ◌++◌, codes}
use Rattle.std.specs.Fmt.{decimal}
use Rattle.edf_fields.specs.declared.faults.cause.FieldCause.{FieldCause}
use Rattle.edf_fields.specs.declared.faults.cause.FieldCause.TheVariants as field
use Rattle.edf_fields.specs.declared.faults.cause.TalCause.{TalCause}
use Rattle.edf_fields.specs.declared.faults.cause.TalCause.TheVariants as tal
use Rattle.edf_fields.specs.declared.faults.fault.Fault.{Fault}
use Rattle.edf_fields.specs.declared.faults.fault.Place.{Place}
use Rattle.edf_fields.specs.declared.faults.fault.Place.TheVariants.{AtField, AtSignal, AtRecord, AtEnd}
use Rattle.edf_fields.specs.declared.faults.fault.Cause.{Cause}
use Rattle.edf_fields.specs.declared.faults.fault.Cause.TheVariants.{Truncated, NotPrintable, BadVersion, BadSubfields, BadStart, StartdateDiffers, BadHeaderSize, NotEdfPlus, BadNumber, BadRange, BadAnnotationSignal, NoAnnotationSignal, NoOrdinarySignal, DuplicateLabel, RecordTooLarge, BadTal, NoTimekeeping, BadFirstStart, NotContiguous, Overlap, TooManyAnnotations, TrailingBytes}
use Rattle.edf_fields.specs.fields.LayoutReading.{fixed_field_name, signal_field_name}

-- the name of the cause for which an identification field is refused
abbrev pub field_cause_name : FieldCause → List ℕ
field_cause_name field.NotPrintable = codes "NotPrintable"
field_cause_name field.LeadingSpace = codes "LeadingSpace"
field_cause_name field.TooFewSubfields = codes "TooFewSubfields"
field_cause_name field.BadSex = codes "BadSex"
field_cause_name field.BadDate = codes "BadDate"
field_cause_name field.NoStartdateWord = codes "NoStartdateWord"

-- the name of the cause for which a lane of time-stamped annotation lists is refused
abbrev pub tal_cause_name : TalCause → List ℕ
tal_cause_name tal.BadOnset = codes "BadOnset"
tal_cause_name tal.BadDuration = codes "BadDuration"
tal_cause_name tal.NoEnd = codes "NoEnd"
tal_cause_name tal.NotUtf8 = codes "NotUtf8"
tal_cause_name tal.ControlByte = codes "ControlByte"
tal_cause_name tal.NotZeroFilled = codes "NotZeroFilled"

-- the cause's name; a cause that has one of a field or of a lane says it in brackets
abbrev pub cause_name : Cause → List ℕ
cause_name Truncated = codes "Truncated"
cause_name NotPrintable = codes "NotPrintable"
cause_name BadVersion = codes "BadVersion"
cause_name (BadSubfields cause) = codes "BadSubfields(" ++ field_cause_name cause ++ codes ")"
cause_name BadStart = codes "BadStart"
cause_name StartdateDiffers = codes "StartdateDiffers"
cause_name BadHeaderSize = codes "BadHeaderSize"
cause_name NotEdfPlus = codes "NotEdfPlus"
cause_name BadNumber = codes "BadNumber"
cause_name BadRange = codes "BadRange"
cause_name BadAnnotationSignal = codes "BadAnnotationSignal"
cause_name NoAnnotationSignal = codes "NoAnnotationSignal"
cause_name NoOrdinarySignal = codes "NoOrdinarySignal"
cause_name DuplicateLabel = codes "DuplicateLabel"
cause_name RecordTooLarge = codes "RecordTooLarge"
cause_name (BadTal cause) = codes "BadTal(" ++ tal_cause_name cause ++ codes ")"
cause_name NoTimekeeping = codes "NoTimekeeping"
cause_name BadFirstStart = codes "BadFirstStart"
cause_name NotContiguous = codes "NotContiguous"
cause_name Overlap = codes "Overlap"
cause_name TooManyAnnotations = codes "TooManyAnnotations"
cause_name TrailingBytes = codes "TrailingBytes"

-- where the fault stands: signals and data records count from 0
abbrev pub place_text : Place → List ℕ
place_text (AtField field) = codes "header field " ++ fixed_field_name field
place_text (AtSignal signal field) = codes "signal " ++ decimal signal ++ codes " field " ++ signal_field_name field
place_text (AtRecord k) = codes "record " ++ decimal k
place_text AtEnd = codes "end"

-- the cause, then the place
abbrev pub fault_text : Fault → List ℕ
fault_text fault = cause_name fault.cause ++ codes " at " ++ place_text fault.place
