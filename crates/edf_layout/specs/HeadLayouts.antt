-- What a header doesn't say by what it means: how its fields are spelled, and where its signals stand (EDF, "Header record"; EDF+, "The EDF+ header").
use Rattle.std.specs.Prelude.{ℕ, zero, suc, ◌+◌, List, [], ◌∷◌, length, take}
use Rattle.edf_fields.specs.Parts.{text_of}
use Rattle.edf_fields.specs.declared.fields.layout.FixedField.{FixedField}
use Rattle.edf_fields.specs.declared.fields.layout.FixedField.TheVariants as fixed
use Rattle.edf_fields.specs.declared.fields.layout.SignalField.{SignalField}
use Rattle.edf_fields.specs.declared.fields.layout.SignalField.TheVariants as signal
use Rattle.edf_fields.specs.fields.Layout.{fixed_field}
use Rattle.edf_fields.specs.fields.LayoutReading.{fixed_part, columns_part, column_field}
use Rattle.edf_header.specs.Heads.{Head}
use Rattle.edf_layout.specs.Spaces.{spaces_of}

-- of a signal: its label, by which it is told from others, and the texts that spell its numbers
pub record SignalLayout : Type 0 where
  pub label : List ℕ
  pub samples : List ℕ
  pub physical_minimum : List ℕ
  pub physical_maximum : List ℕ
  pub digital_minimum : List ℕ
  pub digital_maximum : List ℕ

-- of the fixed part: the word of its kind, the texts that spell its numbers, and how many spaces stand between the subfields of the
-- two identifications
pub record FrontLayout : Type 0 where
  pub kind : List ℕ
  pub size : List ℕ
  pub records : List ℕ
  pub duration : List ℕ
  pub count : List ℕ
  pub patient_spaces : List ℕ
  pub recording_spaces : List ℕ

-- of a header: of its fixed part, and of its signals in their order
pub record HeadLayout : Type 0 where
  pub front : FrontLayout
  pub signals : List SignalLayout

-- the text of a field of the fixed part
abbrev pub fixed_text : List ℕ → FixedField → List ℕ
fixed_text front field = text_of (fixed_field front field)

-- the text of a field of signal s of n
abbrev pub signal_text : List ℕ → ℕ → ℕ → SignalField → List ℕ
signal_text bytes n s field = text_of (column_field bytes n s field)

-- the layout of signal s of n
abbrev pub signal_layout : List ℕ → ℕ → ℕ → SignalLayout
signal_layout bytes n s = record {
  label = signal_text bytes n s signal.Label;
  samples = signal_text bytes n s signal.Samples;
  physical_minimum = signal_text bytes n s signal.PhysicalMinimum;
  physical_maximum = signal_text bytes n s signal.PhysicalMaximum;
  digital_minimum = signal_text bytes n s signal.DigitalMinimum;
  digital_maximum = signal_text bytes n s signal.DigitalMaximum;
}

-- the layouts of the m signals from signal s on, of n
abbrev pub signal_layouts : List ℕ → ℕ → ℕ → ℕ → List SignalLayout
signal_layouts bytes n s zero = []
signal_layouts bytes n s (suc m) = signal_layout bytes n s ∷ signal_layouts bytes n (s + 1) m

-- the layout of the fixed part
abbrev pub front_layout : List ℕ → FrontLayout
front_layout front = record {
  kind = take 5 (fixed_field front fixed.Reserved);
  size = fixed_text front fixed.HeaderBytes;
  records = fixed_text front fixed.Records;
  duration = fixed_text front fixed.Duration;
  count = fixed_text front fixed.Signals;
  patient_spaces = spaces_of (fixed_text front fixed.Patient);
  recording_spaces = spaces_of (fixed_text front fixed.Recording);
}

-- the layout that the fixed part and the columns of n signals have
abbrev pub layout_in : List ℕ → ℕ → List ℕ → HeadLayout
layout_in front n bytes = record { front = front_layout front; signals = signal_layouts bytes n 0 n }

-- the layout of the header of a file
unfoldable pub head_layout_of : List ℕ → Head → HeadLayout
head_layout_of file h = layout_in (fixed_part file) (length h.signals) (columns_part (length h.signals) file)
