-- A header by the parts of its file that are read: the fixed part, and the columns.
use Rattle.std.proofs.Common.{◌≡◌, ℕ, zero, suc, ℤ, pos, ◌+◌, ◌*◌, ◌-◌, ◌<◌, ◌≤◌, List, [], ◌∷◌, ◌++◌, length, take, drop, slice_get, Some, codes, refl, ap, ◌∙◌, sym, subst, arith}
use Rattle.std.specs.Prelude.{All}
use Rattle.std.proofs.Math.Seq.{take-add}
use Rattle.std.proofs.Math.ListN.{drop_of_length-le}
use Rattle.std.proofs.lemmas.List.{length-take, length-drop, take-append-drop, take-take, drop-drop}
use Rattle.std.proofs.lemmas.List.Elements.{All-nil, All-append, All-take, All-drop}
use Rattle.edf_fields.specs.Parts.{part, text_of}
use Rattle.edf_fields.specs.texts.Numbers.{SpellsWhole, SpellsDecimal}
use Rattle.edf_fields.specs.texts.Dates.{NamesClockTime}
use Rattle.edf_fields.specs.texts.Identifications.{SaysPatient, SaysRecording}
use Rattle.edf_fields.specs.texts.Printable.{IsPrintable}
use Rattle.edf_fields.specs.declared.fields.layout.FixedField.{FixedField}
use Rattle.edf_fields.specs.declared.fields.layout.FixedField.TheVariants as fixed
use Rattle.edf_fields.specs.declared.fields.layout.SignalField.{SignalField}
use Rattle.edf_fields.specs.declared.fields.layout.SignalField.TheVariants as signal
use Rattle.edf_fields.specs.fields.Layout.{fixed_extent, fixed_field, column_extent, signal_field}
use Rattle.edf_fields.specs.fields.LayoutReading.{fixed_part, columns_part, column_field}
use Rattle.edf_fields.proofs.ForCallers.{get-within}
use Rattle.edf_header.specs.Heads.{SignalHead, Head, HasSignal, HasHead, NamesStartdate, AreSideBySide, kind_word, header_bytes}
use Rattle.edf_header.specs.Conforming.{HeaderConforms}
use Rattle.edf_header.specs.Standard.{MeetsStandard}

-- `HasHead`, by the parts
pub record HeadInParts (file : List ℕ) (h : Head) : Type 0 where
  pub patient : SaysPatient (fixed_field (fixed_part file) fixed.Patient) h.patient
  pub recording : SaysRecording (fixed_field (fixed_part file) fixed.Recording) h.recording
  pub day : NamesStartdate (text_of (fixed_field (fixed_part file) fixed.Startdate)) h.recording.date h.day
  pub clock : NamesClockTime (text_of (fixed_field (fixed_part file) fixed.Starttime)) h.clock
  pub kind : take 5 (fixed_field (fixed_part file) fixed.Reserved) ≡ kind_word h.kind
  pub free : h.free ≡ text_of (drop 5 (fixed_field (fixed_part file) fixed.Reserved))
  pub records : SpellsWhole (text_of (fixed_field (fixed_part file) fixed.Records)) (pos h.records)
  pub duration : SpellsDecimal 12 (text_of (fixed_field (fixed_part file) fixed.Duration)) h.duration
  pub count : SpellsWhole (text_of (fixed_field (fixed_part file) fixed.Signals)) (pos (length h.signals))
  pub signals : (s : ℕ) (head : SignalHead) → slice_get h.signals s ≡ Some head → HasSignal (column_field (columns_part (length h.signals) file) (length h.signals) s) head
  pub offsets : AreSideBySide 0 h.signals

-- `HeaderConforms`, by the parts
pub record HeaderInParts (file : List ℕ) (h : Head) : Type 0 where
  pub whole : header_bytes h ≤ length file
  pub front : (field : FixedField) → IsPrintable (fixed_field (fixed_part file) field)
  pub columns : (s : ℕ) → s < length h.signals → (field : SignalField) → IsPrintable (column_field (columns_part (length h.signals) file) (length h.signals) s field)
  pub version : text_of (fixed_field (fixed_part file) fixed.Version) ≡ codes "0"
  pub size : SpellsWhole (text_of (fixed_field (fixed_part file) fixed.HeaderBytes)) (pos (header_bytes h))
  pub head : HeadInParts file h
  pub standard : MeetsStandard h

-- ---- fields

within-take : (k b n : ℕ) (ys : List ℕ) → b + k ≤ n → take k (drop b (take n ys)) ≡ take k (drop b ys)
within-take k zero n ys le = take-take k n ys (omega (arith, le))
within-take k (suc b) zero ys le = absurd (omega (arith, le))
within-take k (suc b) (suc n) [] le = refl
within-take k (suc b) (suc n) (y ∷ ys) le = within-take k b n ys (omega (arith, le))

part-part : (xs : List ℕ) (at n b k : ℕ) → b + k ≤ n → part (part xs at n) b k ≡ part xs (at + b) k
part-part xs at n b k le = within-take k b n (drop at xs) le ∙ ap (take k) (drop-drop b at xs)

part-front : (xs : List ℕ) (n b k : ℕ) → b + k ≤ n → part (take n xs) b k ≡ part xs b k
part-front xs n b k le = within-take k b n xs le

fixed-fits : (field : FixedField) → (fixed_extent field).0 + (fixed_extent field).1 ≤ 256
fixed-fits fixed.Version = omega arith
fixed-fits fixed.Patient = omega arith
fixed-fits fixed.Recording = omega arith
fixed-fits fixed.Startdate = omega arith
fixed-fits fixed.Starttime = omega arith
fixed-fits fixed.HeaderBytes = omega arith
fixed-fits fixed.Reserved = omega arith
fixed-fits fixed.Records = omega arith
fixed-fits fixed.Duration = omega arith
fixed-fits fixed.Signals = omega arith

fixed-is : (file : List ℕ) (field : FixedField) → fixed_field (fixed_part file) field ≡ fixed_field file field
fixed-is file field = part-front file 256 (fixed_extent field).0 (fixed_extent field).1 (fixed-fits field)

column-fits : (n s : ℕ) (field : SignalField) → s < n → (column_extent field).0 * n + (column_extent field).1 * s + (column_extent field).1 ≤ 256 * n
column-fits n s signal.Label lt = omega (arith, lt)
column-fits n s signal.Transducer lt = omega (arith, lt)
column-fits n s signal.Dimension lt = omega (arith, lt)
column-fits n s signal.PhysicalMinimum lt = omega (arith, lt)
column-fits n s signal.PhysicalMaximum lt = omega (arith, lt)
column-fits n s signal.DigitalMinimum lt = omega (arith, lt)
column-fits n s signal.DigitalMaximum lt = omega (arith, lt)
column-fits n s signal.Prefilter lt = omega (arith, lt)
column-fits n s signal.Samples lt = omega (arith, lt)
column-fits n s signal.Reserved lt = omega (arith, lt)

column-is : (file : List ℕ) (n s : ℕ) (field : SignalField) → s < n → column_field (columns_part n file) n s field ≡ signal_field file n s field
column-is file n s field lt =
    let from = (column_extent field).0 * n in
    let at = (column_extent field).1 * s in
    let w = (column_extent field).1 in
    part-part file 256 (256 * n) (from + at) w (column-fits n s field lt)
    ∙ ap (λ k. part file k w) (let e : 256 + (from + at) ≡ 256 + from + at = omega arith in e)

-- ---- printable bytes

abbrev IsPlain : ℕ → Type 0
IsPlain b = (32 ≤ b) × (b ≤ 126)

part-printable : (file : List ℕ) (n at k : ℕ) → at + k ≤ n → IsPrintable (take n file) → IsPrintable (part file at k)
part-printable file n at k le h = subst IsPrintable (part-front file n at k le) (All-take IsPlain k (drop at (take n file)) (All-drop IsPlain at (take n file) h))

join-all : (xs : List ℕ) (at n : ℕ) → IsPrintable (part xs at n) → IsPrintable (drop (at + n) xs) → IsPrintable (drop at xs)
join-all xs at n here behind =
    subst IsPrintable (take-append-drop n (drop at xs))
    (All-append IsPlain (part xs at n) (drop n (drop at xs)) here (subst IsPrintable (sym (drop-drop n at xs)) behind))

nothing-left : (xs : List ℕ) (at : ℕ) → length xs ≤ at → IsPrintable (drop at xs)
nothing-left xs at short = subst IsPrintable (sym (drop_of_length-le xs short)) (All-nil IsPlain)

front-printable : (xs : List ℕ) → length xs ≤ 256 → ((field : FixedField) → IsPrintable (fixed_field xs field)) → IsPrintable xs
front-printable xs short each =
    let j = join-all xs in
    j 0 8 (each fixed.Version) (j 8 80 (each fixed.Patient) (j 88 80 (each fixed.Recording) (j 168 8 (each fixed.Startdate)
    (j 176 8 (each fixed.Starttime) (j 184 8 (each fixed.HeaderBytes) (j 192 44 (each fixed.Reserved) (j 236 8 (each fixed.Records)
    (j 244 8 (each fixed.Duration) (j 252 4 (each fixed.Signals) (nothing-left xs 256 short))))))))))

-- the m fields from signal s on, in a column that begins at a place and has fields of w bytes
column-all : (xs : List ℕ) (at w s m : ℕ) → ((k : ℕ) → s ≤ k → k < s + m → IsPrintable (part xs (at + w * k) w))
    → IsPrintable (drop (at + w * (s + m)) xs) → IsPrintable (drop (at + w * s) xs)
column-all xs at w s zero each behind = subst (λ n. IsPrintable (drop (at + w * n) xs)) (let e : s + 0 ≡ s = omega arith in e) behind
column-all xs at w s (suc m) each behind =
    let next : IsPrintable (drop (at + w * (s + 1)) xs) =
    column-all xs at w (s + 1) m (λ k low high. each k (omega arith) (omega arith))
    (subst (λ n. IsPrintable (drop (at + w * n) xs)) (let e : s + suc m ≡ s + 1 + m = omega arith in e) behind) in
    let there : at + w * (s + 1) ≡ at + w * s + w = omega arith in
    join-all xs (at + w * s) w (each s (omega arith) (omega arith)) (subst (λ n. IsPrintable (drop n xs)) there next)

field-all : (xs : List ℕ) (n : ℕ) (field : SignalField) → ((s : ℕ) → s < n → IsPrintable (column_field xs n s field))
    → IsPrintable (drop ((column_extent field).0 * n + (column_extent field).1 * n) xs) → IsPrintable (drop ((column_extent field).0 * n) xs)
field-all xs n field each behind =
    let from = (column_extent field).0 * n in
    let w = (column_extent field).1 in
    let all : IsPrintable (drop (from + w * 0) xs) =
    column-all xs from w 0 n (λ k low high. each k (omega arith)) (subst (λ m. IsPrintable (drop (from + w * m) xs)) (let e : n ≡ 0 + n = omega arith in e) behind) in
    subst (λ m. IsPrintable (drop m xs)) (let e : from + w * 0 ≡ from = omega arith in e) all

columns-printable : (xs : List ℕ) (n : ℕ) → length xs ≤ 256 * n → ((s : ℕ) → s < n → (field : SignalField) → IsPrintable (column_field xs n s field)) → IsPrintable xs
columns-printable xs n short each =
    let end : IsPrintable (drop (256 * n) xs) = nothing-left xs (256 * n) short in
    let at : (a b : ℕ) → a ≡ b → IsPrintable (drop b xs) → IsPrintable (drop a xs) = λ a b e h. subst (λ k. IsPrintable (drop k xs)) (sym e) h in
    let c : (field : SignalField) → IsPrintable (drop ((column_extent field).0 * n + (column_extent field).1 * n) xs) → IsPrintable (drop ((column_extent field).0 * n) xs) =
    λ field. field-all xs n field (λ s low. each s low field) in
    let r = c signal.Reserved (at (224 * n + 32 * n) (256 * n) (omega arith) end) in
    let q = c signal.Samples (at (216 * n + 8 * n) (224 * n) (omega arith) r) in
    let p = c signal.Prefilter (at (136 * n + 80 * n) (216 * n) (omega arith) q) in
    let o = c signal.DigitalMaximum (at (128 * n + 8 * n) (136 * n) (omega arith) p) in
    let m = c signal.DigitalMinimum (at (120 * n + 8 * n) (128 * n) (omega arith) o) in
    let l = c signal.PhysicalMaximum (at (112 * n + 8 * n) (120 * n) (omega arith) m) in
    let k = c signal.PhysicalMinimum (at (104 * n + 8 * n) (112 * n) (omega arith) l) in
    let j = c signal.Dimension (at (96 * n + 8 * n) (104 * n) (omega arith) k) in
    let i = c signal.Transducer (at (16 * n + 80 * n) (96 * n) (omega arith) j) in
    at 0 (0 * n) (omega arith) (c signal.Label (at (0 * n + 16 * n) (16 * n) (omega arith) i))

header-is : (file : List ℕ) (n : ℕ) → take (256 * (n + 1)) file ≡ fixed_part file ++ columns_part n file
header-is file n = ap (λ k. take k file) (let e : 256 * (n + 1) ≡ 256 + 256 * n = omega arith in e) ∙ take-add 256 (256 * n) file

-- ---- headers

signal-alike : (f g : SignalField → List ℕ) (head : SignalHead) → ((field : SignalField) → f field ≡ g field) → HasSignal f head → HasSignal g head
signal-alike f g head same h = record {
  label = h.label ∙ ap text_of (same signal.Label);
  transducer = h.transducer ∙ ap text_of (same signal.Transducer);
  dimension = h.dimension ∙ ap text_of (same signal.Dimension);
  physical_minimum = subst (λ t. SpellsDecimal 7 (text_of t) head.calibration.physical_minimum) (same signal.PhysicalMinimum) h.physical_minimum;
  physical_maximum = subst (λ t. SpellsDecimal 7 (text_of t) head.calibration.physical_maximum) (same signal.PhysicalMaximum) h.physical_maximum;
  digital_minimum = subst (λ t. SpellsWhole (text_of t) head.calibration.digital_minimum) (same signal.DigitalMinimum) h.digital_minimum;
  digital_maximum = subst (λ t. SpellsWhole (text_of t) head.calibration.digital_maximum) (same signal.DigitalMaximum) h.digital_maximum;
  prefilter = h.prefilter ∙ ap text_of (same signal.Prefilter);
  samples = subst (λ t. SpellsWhole (text_of t) (pos head.samples)) (same signal.Samples) h.samples;
  reserved = h.reserved ∙ ap text_of (same signal.Reserved);
}

pub head_in_parts : (file : List ℕ) (h : Head) → HasHead file h → HeadInParts file h
head_in_parts file h has =
    let n = length h.signals in
    let is : (field : FixedField) → fixed_field file field ≡ fixed_field (fixed_part file) field = λ field. sym (fixed-is file field) in
    record {
      patient = subst (λ t. SaysPatient t h.patient) (is fixed.Patient) has.patient;
      recording = subst (λ t. SaysRecording t h.recording) (is fixed.Recording) has.recording;
      day = subst (λ t. NamesStartdate (text_of t) h.recording.date h.day) (is fixed.Startdate) has.day;
      clock = subst (λ t. NamesClockTime (text_of t) h.clock) (is fixed.Starttime) has.clock;
      kind = subst (λ t. take 5 t ≡ kind_word h.kind) (is fixed.Reserved) has.kind;
      free = subst (λ t. h.free ≡ text_of (drop 5 t)) (is fixed.Reserved) has.free;
      records = subst (λ t. SpellsWhole (text_of t) (pos h.records)) (is fixed.Records) has.records;
      duration = subst (λ t. SpellsDecimal 12 (text_of t) h.duration) (is fixed.Duration) has.duration;
      count = subst (λ t. SpellsWhole (text_of t) (pos (length h.signals))) (is fixed.Signals) has.count;
      signals = λ s head e.
          signal-alike (signal_field file n s) (column_field (columns_part n file) n s) head
          (λ field. sym (column-is file n s field (get-within h.signals s head e))) (has.signals s head e);
      offsets = has.offsets;
    }

pub head_from_parts : (file : List ℕ) (h : Head) → HeadInParts file h → HasHead file h
head_from_parts file h has =
    let n = length h.signals in
    let is : (field : FixedField) → fixed_field (fixed_part file) field ≡ fixed_field file field = λ field. fixed-is file field in
    record {
      patient = subst (λ t. SaysPatient t h.patient) (is fixed.Patient) has.patient;
      recording = subst (λ t. SaysRecording t h.recording) (is fixed.Recording) has.recording;
      day = subst (λ t. NamesStartdate (text_of t) h.recording.date h.day) (is fixed.Startdate) has.day;
      clock = subst (λ t. NamesClockTime (text_of t) h.clock) (is fixed.Starttime) has.clock;
      kind = subst (λ t. take 5 t ≡ kind_word h.kind) (is fixed.Reserved) has.kind;
      free = subst (λ t. h.free ≡ text_of (drop 5 t)) (is fixed.Reserved) has.free;
      records = subst (λ t. SpellsWhole (text_of t) (pos h.records)) (is fixed.Records) has.records;
      duration = subst (λ t. SpellsDecimal 12 (text_of t) h.duration) (is fixed.Duration) has.duration;
      count = subst (λ t. SpellsWhole (text_of t) (pos (length h.signals))) (is fixed.Signals) has.count;
      signals = λ s head e.
          signal-alike (column_field (columns_part n file) n s) (signal_field file n s) head
          (λ field. column-is file n s field (get-within h.signals s head e)) (has.signals s head e);
      offsets = has.offsets;
    }

pub in_parts : (file : List ℕ) (h : Head) → HeaderConforms file h → HeaderInParts file h
in_parts file h c =
    let n = length h.signals in
    record {
      whole = c.whole;
      front = λ field.
          let fits = fixed-fits field in
          subst IsPrintable (sym (fixed-is file field)) (part-printable file (header_bytes h) (fixed_extent field).0 (fixed_extent field).1 (omega (arith, fits)) c.printable);
      columns = λ s lt field.
          let fits = column-fits n s field lt in
          subst IsPrintable (sym (column-is file n s field lt))
          (part-printable file (header_bytes h) (256 + (column_extent field).0 * n + (column_extent field).1 * s) (column_extent field).1 (omega (arith, fits)) c.printable);
      version = ap text_of (fixed-is file fixed.Version) ∙ c.version;
      size = subst (λ t. SpellsWhole (text_of t) (pos (header_bytes h))) (sym (fixed-is file fixed.HeaderBytes)) c.size;
      head = head_in_parts file h c.head;
      standard = c.standard;
    }

pub from_parts : (file : List ℕ) (h : Head) → HeaderInParts file h → HeaderConforms file h
from_parts file h c =
    let n = length h.signals in
    let front : length (fixed_part file) ≤ 256 = omega (arith, length-take 256 file) in
    let columns : length (columns_part n file) ≤ 256 * n = omega (arith, length-take (256 * n) (drop 256 file)) in
    record {
      whole = c.whole;
      printable = subst IsPrintable (sym (header-is file n))
          (All-append IsPlain (fixed_part file) (columns_part n file) (front-printable (fixed_part file) front c.front) (columns-printable (columns_part n file) n columns c.columns));
      version = ap text_of (sym (fixed-is file fixed.Version)) ∙ c.version;
      size = subst (λ t. SpellsWhole (text_of t) (pos (header_bytes h))) (fixed-is file fixed.HeaderBytes) c.size;
      head = head_from_parts file h c.head;
      standard = c.standard;
    }
