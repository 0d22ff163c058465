-- The header that bytes spell: a file that passes its tests has one, and no file has two.
use Rattle.std.proofs.Common.{◌≡◌, ℕ, zero, suc, ℤ, pos, ◌+◌, ◌*◌, ◌≤◌, ◌||◌, take, Bool, true, false, cond, List, [], ◌∷◌, ◌++◌, length, slice_get, unwrap_or, Option, Some, None, codes, refl, sym, ap, ◌∙◌, subst, arith, ◌<◌, ◌≤ℤ◌, ◌^◌, unsigned_abs}
use Rattle.edf_header.proofs.PartsFacts.{HeadInParts, head_in_parts, head_from_parts}
use Rattle.std.specs.Prelude.{◌*ℤ◌}
use Rattle.edf_fields.specs.texts.Numbers.{SpellsWhole}
use Rattle.std.specs.Str.{bytes_eq}
use Rattle.std.proofs.lemmas.Slice.Eq.{bytes_eq-Decides}
use Rattle.edf_fields.specs.Parts.{text_of, part}
use Rattle.edf_fields.specs.texts.NumbersReading.{whole_number_of, header_number_of, SpellsHeaderNumber, SpellsWholeNumber}
use Rattle.edf_fields.specs.texts.Dates.{CivilDay, NamesClockTime}
use Rattle.edf_fields.specs.texts.DatesReading.{clock_time_of}
use Rattle.edf_fields.specs.texts.Identifications.{Patient, Recording}
use Rattle.edf_fields.specs.texts.IdentificationsReading.{patient_cause, recording_cause}
use Rattle.edf_fields.proofs.ForCallers.{clock_time_read, clock_time-some, whole_number_of-some, header_number_of-some, whole_number_of-spelled, header_number_of-spelled, header_number-below, first-none, first-cons, whole_in, decimal_in, to_picoseconds, from_picoseconds}
use Rattle.edf_fields.specs.declared.faults.fault.Place.TheVariants.{AtField}
use Rattle.edf_fields.specs.declared.faults.fault.Cause.TheVariants.{NotEdfPlus, BadStart, BadSubfields}
use Rattle.edf_fields.specs.declared.faults.fault.Place.{Place}
use Rattle.edf_fields.specs.declared.faults.cause.FieldCause.{FieldCause}
use Rattle.edf_header.specs.declared.kind.Kind.{Kind}
use Rattle.edf_header.specs.declared.kind.Kind.TheVariants.{Contiguous, Interrupted}
use Rattle.edf_fields.specs.declared.fields.layout.FixedField.TheVariants as fixed
use Rattle.edf_fields.specs.declared.fields.layout.SignalField.TheVariants as signal
use Rattle.edf_header.specs.signals.Calibrations.{CalibrationValue}
use Rattle.edf_fields.specs.fields.Layout.{fixed_field}
use Rattle.edf_fields.specs.fields.LayoutReading.{fixed_fields, columns, fixed_part, columns_part, column_field}
use Rattle.edf_header.specs.Heads.{SignalHead, Head, HasSignal, NamesStartdate, AreSideBySide, kind_word, day_number}
use Rattle.edf_header.specs.HeadsReading.{HasOneHead, startdate_of, kind_of, count_of, first_day, recording_in, signals_of, line_of, signal_of, signals_from, signals_in, head_in, head_of}
use Rattle.edf_header.specs.ConformingLaws.{PassingHasHead, PassingIsSound}
use Rattle.edf_header.specs.Sound.{IsSound}
use Rattle.std.proofs.lemmas.Int.{ints}
use Rattle.edf_header.proofs.signals.ChannelFacts.{joint-passed}
use Rattle.edf_header.specs.Faults.{fault, fault_unless, not_printable, not_named, not_read, not_positive, version_fault, patient_fault, recording_fault, startdate_fault, starttime_fault, header_bytes_fault, reserved_fault, records_fault, duration_fault, signals_fault, header_size_fault, fixed_missing, start_faults, extent_faults, fixed_tests, columns_missing, signal_faults, signals_faults, joint_faults, columns_tests, header_fault}
use Rattle.edf_fields.specs.Tests.{first}
use Rattle.edf_header.proofs.PassedFacts.{fault_unless-passed, named-passed, positive-passed}
use Rattle.edf_header.proofs.SaidFacts.{patient_is, recording_is}
use Rattle.edf_header.proofs.signals.SignalFacts.{length-signals}
use Rattle.edf_header.proofs.SoundFacts.{Passes, signal-passes, side-by-side, signals-sound, signals-short, count-below}
use Rattle.edf_header.proofs.KeptFacts.{patient-said, recording-said}
use Rattle.edf_header.proofs.fixed_part.StartdateFacts.{startdate-named, startdate-said, startdate-read, same-day, near-day}

-- the number that a field spells is what is read of it
spelled : (field : List ℕ) (v : ℤ) → header_number_of field ≡ Some v → SpellsHeaderNumber field (unwrap_or (header_number_of field) (pos 0))
spelled field v e = subst (λ o. SpellsHeaderNumber field (unwrap_or o (pos 0))) (sym e) (header_number_of-some field v e)

spelled-whole : (field : List ℕ) (v : ℤ) → whole_number_of field ≡ Some v → SpellsWholeNumber field (unwrap_or (whole_number_of field) (pos 0))
spelled-whole field v e = subst (λ o. SpellsWholeNumber field (unwrap_or o (pos 0))) (sym e) (whole_number_of-some field v e)

spelled-count : (field : List ℕ) (n : ℕ) → whole_number_of field ≡ Some (pos n) → SpellsWholeNumber field (pos (count_of (whole_number_of field)))
spelled-count field n e = subst (λ o. SpellsWholeNumber field (pos (count_of o))) (sym e) (whole_number_of-some field (pos n) e)

pub passes-says : (bytes : List ℕ) (n s before : ℕ) → Passes bytes n s → HasSignal (column_field bytes n s) (signal_of bytes n s before)
passes-says bytes n s before p = record {
  label = refl;
  transducer = refl;
  dimension = refl;
  physical_minimum = (spelled (column_field bytes n s signal.PhysicalMinimum) (p.physical_minimum).0 (p.physical_minimum).1).1;
  physical_maximum = (spelled (column_field bytes n s signal.PhysicalMaximum) (p.physical_maximum).0 (p.physical_maximum).1).1;
  digital_minimum = (spelled-whole (column_field bytes n s signal.DigitalMinimum) (p.digital_minimum).0 (p.digital_minimum).1).1;
  digital_maximum = (spelled-whole (column_field bytes n s signal.DigitalMaximum) (p.digital_maximum).0 (p.digital_maximum).1).1;
  prefilter = refl;
  samples = (spelled-count (column_field bytes n s signal.Samples) (p.samples).0 (p.samples).1).1;
  reserved = refl;
}

pub has-signals : (bytes : List ℕ) (n s before m : ℕ) → first (signals_faults bytes n s m) ≡ None
    → (k : ℕ) (head : SignalHead) → slice_get (signals_from bytes n s before m) k ≡ Some head → HasSignal (column_field bytes n (s + k)) head
has-signals bytes n s before zero h k head e = absurd (let z : None ≡ Some head = e in cc)
has-signals bytes n s before (suc m) h zero head e =
    let parts = first-none (signal_faults bytes n s) (signals_faults bytes n (s + 1) m) h in
    let z : signal_of bytes n s before ≡ head = (let j : Some (signal_of bytes n s before) ≡ Some head = e in cc) in
    let at : s ≡ s + 0 = omega arith in
    subst (λ k. HasSignal (column_field bytes n k) head) at (subst (λ (x : SignalHead). HasSignal (column_field bytes n s) x) z (passes-says bytes n s before (signal-passes bytes n s parts.0)))
has-signals bytes n s before (suc m) h (suc k) head e =
    let parts = first-none (signal_faults bytes n s) (signals_faults bytes n (s + 1) m) h in
    let at : s + 1 + k ≡ s + suc k = omega arith in
    subst (λ j. HasSignal (column_field bytes n j) head) at (has-signals bytes n (s + 1) (before + 2 * (signal_of bytes n s before).samples) m parts.1 k head e)

-- the kind of a file that is an EDF+ file
kind-cases : (xs : List ℕ) (b d : Bool) → bytes_eq xs (codes "EDF+C") ≡ b → bytes_eq xs (codes "EDF+D") ≡ d → (b || d) ≡ true → xs ≡ kind_word (cond b Contiguous Interrupted)
kind-cases xs true d c e h = (bytes_eq-Decides xs (codes "EDF+C")).0 c
kind-cases xs false true c e h = (bytes_eq-Decides xs (codes "EDF+D")).0 e
kind-cases xs false false c e h = absurd (let z : false ≡ true = h in cc)

kind-said : (field : List ℕ) → reserved_fault field ≡ None → take 5 field ≡ kind_word (kind_of field)
unfolding reserved_fault
kind-said field h =
    let either : Bool = bytes_eq (take 5 field) (codes "EDF+C") || bytes_eq (take 5 field) (codes "EDF+D") in
    let test = fault_unless either (AtField fixed.Reserved) NotEdfPlus in
    let a = first-cons (not_printable (AtField fixed.Reserved) field) (test ∷ []) h in
    let t : either ≡ true = fault_unless-passed either (AtField fixed.Reserved) NotEdfPlus (first-cons test [] a.1).0 in
    kind-cases (take 5 field) (bytes_eq (take 5 field) (codes "EDF+C")) (bytes_eq (take 5 field) (codes "EDF+D")) refl refl t

is-kind : (field : List ℕ) (k : Kind) → take 5 field ≡ kind_word k → k ≡ kind_of field
is-kind field Contiguous h = ap (λ xs. cond (bytes_eq xs (codes "EDF+C")) Contiguous Interrupted) (sym h)
is-kind field Interrupted h = ap (λ xs. cond (bytes_eq xs (codes "EDF+C")) Contiguous Interrupted) (sym h)

-- the day and the time of the day that the fields name
clock-said : (field : List ℕ) (s : ℕ) → clock_time_of (text_of field) ≡ Some s → NamesClockTime (text_of field) (unwrap_or (clock_time_of (text_of field)) 0)
clock-said field s e = subst (λ o. NamesClockTime (text_of field) (unwrap_or o 0)) (sym e) (clock_time-some (text_of field) s e)

starttime-named : (field : List ℕ) → starttime_fault field ≡ None → (s : ℕ) × (clock_time_of (text_of field) ≡ Some s)
unfolding starttime_fault
starttime-named field h =
    let named = not_named (AtField fixed.Starttime) BadStart (clock_time_of (text_of field)) in
    let a = first-cons (not_printable (AtField fixed.Starttime) field) (named ∷ []) h in
    named-passed (AtField fixed.Starttime) BadStart (clock_time_of (text_of field)) (first-cons named [] a.1).0

read-none : (place : Place) (o : Option FieldCause) → not_read place o ≡ None → o ≡ None
read-none place None h = refl
read-none place (Some cause) h = absurd (let z : fault place (BadSubfields cause) ≡ None = h in cc)

patient-passed : (field : List ℕ) → patient_fault field ≡ None → patient_cause field ≡ None
unfolding patient_fault
patient-passed field h =
    let test = not_read (AtField fixed.Patient) (patient_cause field) in
    let a = first-cons (not_printable (AtField fixed.Patient) field) (test ∷ []) h in
    read-none (AtField fixed.Patient) (patient_cause field) (first-cons test [] a.1).0

recording-passed : (field : List ℕ) → recording_fault field ≡ None → recording_cause field ≡ None
unfolding recording_fault
recording-passed field h =
    let test = not_read (AtField fixed.Recording) (recording_cause field) in
    let a = first-cons (not_printable (AtField fixed.Recording) field) (test ∷ []) h in
    read-none (AtField fixed.Recording) (recording_cause field) (first-cons test [] a.1).0

records-passed : (field : List ℕ) → records_fault field ≡ None → (n : ℕ) × (whole_number_of field ≡ Some (pos n)) × (1 ≤ n)
unfolding records_fault
records-passed field h =
    let test = not_positive (AtField fixed.Records) (whole_number_of field) in
    let a = first-cons (not_printable (AtField fixed.Records) field) (test ∷ []) h in
    positive-passed (AtField fixed.Records) (whole_number_of field) (first-cons test [] a.1).0

duration-passed : (field : List ℕ) → duration_fault field ≡ None → (n : ℕ) × (header_number_of field ≡ Some (pos n)) × (1 ≤ n)
unfolding duration_fault
duration-passed field h =
    let test = not_positive (AtField fixed.Duration) (header_number_of field) in
    let a = first-cons (not_printable (AtField fixed.Duration) field) (test ∷ []) h in
    positive-passed (AtField fixed.Duration) (header_number_of field) (first-cons test [] a.1).0

pub signals-passed : (field : List ℕ) → signals_fault field ≡ None → (n : ℕ) × (whole_number_of field ≡ Some (pos n)) × (1 ≤ n)
unfolding signals_fault
signals-passed field h =
    let test = not_positive (AtField fixed.Signals) (whole_number_of field) in
    let a = first-cons (not_printable (AtField fixed.Signals) field) (test ∷ []) h in
    positive-passed (AtField fixed.Signals) (whole_number_of field) (first-cons test [] a.1).0

-- the tests of the fields of the fixed part, each by itself
pub record FixedPasses (front : List ℕ) : Type 0 where
  pub version : version_fault (fixed_field front fixed.Version) ≡ None
  pub patient : patient_fault (fixed_field front fixed.Patient) ≡ None
  pub recording : recording_fault (fixed_field front fixed.Recording) ≡ None
  pub startdate : startdate_fault (recording_in (fixed_field front fixed.Recording)).date (fixed_field front fixed.Startdate) ≡ None
  pub starttime : starttime_fault (fixed_field front fixed.Starttime) ≡ None
  pub size : header_bytes_fault (fixed_field front fixed.HeaderBytes) ≡ None
  pub reserved : reserved_fault (fixed_field front fixed.Reserved) ≡ None
  pub records : records_fault (fixed_field front fixed.Records) ≡ None
  pub duration : duration_fault (fixed_field front fixed.Duration) ≡ None
  pub signals : signals_fault (fixed_field front fixed.Signals) ≡ None
  pub whole : header_size_fault (signals_of front) (fixed_field front fixed.HeaderBytes) ≡ None

pub fixed-passes : (front : List ℕ) → first (fixed_tests front) ≡ None → FixedPasses front
fixed-passes front h =
    let a = first-none (fixed_missing fixed_fields (length front)) (start_faults front ++ extent_faults front) h in
    let b = first-none (start_faults front) (extent_faults front) a.1 in
    let version = version_fault (fixed_field front fixed.Version) in
    let patient = patient_fault (fixed_field front fixed.Patient) in
    let recording = recording_fault (fixed_field front fixed.Recording) in
    let startdate = startdate_fault (recording_in (fixed_field front fixed.Recording)).date (fixed_field front fixed.Startdate) in
    let starttime = starttime_fault (fixed_field front fixed.Starttime) in
    let size = header_bytes_fault (fixed_field front fixed.HeaderBytes) in
    let reserved = reserved_fault (fixed_field front fixed.Reserved) in
    let records = records_fault (fixed_field front fixed.Records) in
    let duration = duration_fault (fixed_field front fixed.Duration) in
    let signals = signals_fault (fixed_field front fixed.Signals) in
    let whole = header_size_fault (signals_of front) (fixed_field front fixed.HeaderBytes) in
    let c0 = first-cons version (patient ∷ recording ∷ startdate ∷ starttime ∷ []) b.0 in
    let c1 = first-cons patient (recording ∷ startdate ∷ starttime ∷ []) c0.1 in
    let c2 = first-cons recording (startdate ∷ starttime ∷ []) c1.1 in
    let c3 = first-cons startdate (starttime ∷ []) c2.1 in
    let c4 = first-cons starttime [] c3.1 in
    let d0 = first-cons size (reserved ∷ records ∷ duration ∷ signals ∷ whole ∷ []) b.1 in
    let d1 = first-cons reserved (records ∷ duration ∷ signals ∷ whole ∷ []) d0.1 in
    let d2 = first-cons records (duration ∷ signals ∷ whole ∷ []) d1.1 in
    let d3 = first-cons duration (signals ∷ whole ∷ []) d2.1 in
    let d4 = first-cons signals (whole ∷ []) d3.1 in
    let d5 = first-cons whole [] d4.1 in
    record { version = c0.0; patient = c1.0; recording = c2.0; startdate = c3.0; starttime = c4.0; size = d0.0; reserved = d1.0; records = d2.0; duration = d3.0; signals = d4.0; whole = d5.0 }

pub has-head : (file : List ℕ) → header_fault file ≡ None → HeadInParts file (head_of file)
unfolding header_fault head_of
has-head file h =
    let front : List ℕ = fixed_part file in
    let n : ℕ = signals_of front in
    let bytes : List ℕ = columns_part n file in
    let a = first-none (fixed_tests front) (columns_tests n bytes) h in
    let c0 = first-none (columns_missing columns n (length bytes)) (signals_faults bytes n 0 n ++ joint_faults (signals_in n bytes)) a.1 in
    let c1 = first-none (signals_faults bytes n 0 n) (joint_faults (signals_in n bytes)) c0.1 in
    let p = fixed-passes front a.0 in
    let date = (recording_in (fixed_field front fixed.Recording)).date in
    let day = startdate-named date (fixed_field front fixed.Startdate) p.startdate in
    let clock = starttime-named (fixed_field front fixed.Starttime) p.starttime in
    let records = records-passed (fixed_field front fixed.Records) p.records in
    let duration = duration-passed (fixed_field front fixed.Duration) p.duration in
    let signals = signals-passed (fixed_field front fixed.Signals) p.signals in
    let long : length (signals_in n bytes) ≡ n = length-signals bytes n 0 0 n in
    record {
      patient = patient-said (fixed_field front fixed.Patient) (patient-passed (fixed_field front fixed.Patient) p.patient);
      recording = recording-said (fixed_field front fixed.Recording) (recording-passed (fixed_field front fixed.Recording) p.recording);
      day = subst (λ o. NamesStartdate (text_of (fixed_field front fixed.Startdate)) date (unwrap_or o first_day)) (sym day.0.1)
          (startdate-said (text_of (fixed_field front fixed.Startdate)) date day.0.0 day.0.1 day.1);
      clock = clock-said (fixed_field front fixed.Starttime) clock.0 clock.1;
      kind = kind-said (fixed_field front fixed.Reserved) p.reserved;
      free = refl;
      records = (spelled-count (fixed_field front fixed.Records) records.0 records.1).1;
      duration = to_picoseconds (fixed_field front fixed.Duration) (unwrap_or (header_number_of (fixed_field front fixed.Duration)) (pos 0))
          (spelled (fixed_field front fixed.Duration) (pos duration.0) duration.1);
      count = subst (λ k. SpellsWhole (text_of (fixed_field front fixed.Signals)) (pos k)) (sym long) (spelled-count (fixed_field front fixed.Signals) signals.0 signals.1).1;
      signals = λ s head e.
          subst (λ k. HasSignal (column_field (columns_part k file) k s) head) (sym long)
          (subst (λ k. HasSignal (column_field bytes n k) head) (let at : 0 + s ≡ s = omega arith in at) (has-signals bytes n 0 0 n c1.0 s head e));
      offsets = side-by-side bytes n 0 0 n;
    }

-- the signals that have these fields are those that are read of them
same-line : (l m : CalibrationValue) → l.physical_minimum ≡ m.physical_minimum → l.physical_maximum ≡ m.physical_maximum → l.digital_minimum ≡ m.digital_minimum → l.digital_maximum ≡ m.digital_maximum → l ≡ m
same-line l m a b d e =
    let made : ℤ → ℤ → ℤ → ℤ → CalibrationValue = λ w x y z. record { physical_minimum = w; physical_maximum = x; digital_minimum = y; digital_maximum = z } in
    ap (λ w. made w l.physical_maximum l.digital_minimum l.digital_maximum) a
    ∙ ap (λ x. made m.physical_minimum x l.digital_minimum l.digital_maximum) b
    ∙ ap (λ y. made m.physical_minimum m.physical_maximum y l.digital_maximum) d
    ∙ ap (λ z. made m.physical_minimum m.physical_maximum m.digital_minimum z) e

read-number : (field : List ℕ) (v : ℤ) → SpellsHeaderNumber field v → v ≡ unwrap_or (header_number_of field) (pos 0)
read-number field v h = sym (ap (λ o. unwrap_or o (pos 0)) (header_number_of-spelled field v h))

read-whole : (field : List ℕ) (v : ℤ) → SpellsWholeNumber field v → v ≡ unwrap_or (whole_number_of field) (pos 0)
read-whole field v h = sym (ap (λ o. unwrap_or o (pos 0)) (whole_number_of-spelled field v h))

read-count : (field : List ℕ) (n : ℕ) → SpellsWholeNumber field (pos n) → n ≡ count_of (whole_number_of field)
read-count field n h = sym (ap count_of (whole_number_of-spelled field (pos n) h))

pub signal-read : (bytes : List ℕ) (n s before : ℕ) (head : SignalHead) → HasSignal (column_field bytes n s) head → head.offset ≡ before → head ≡ signal_of bytes n s before
signal-read bytes n s before head h e =
    let line = same-line head.calibration (line_of bytes n s)
    (read-number (column_field bytes n s signal.PhysicalMinimum) head.calibration.physical_minimum (decimal_in bytes (104 * n + 8 * s) 8 head.calibration.physical_minimum (omega arith) h.physical_minimum))
    (read-number (column_field bytes n s signal.PhysicalMaximum) head.calibration.physical_maximum (decimal_in bytes (112 * n + 8 * s) 8 head.calibration.physical_maximum (omega arith) h.physical_maximum))
    (read-whole (column_field bytes n s signal.DigitalMinimum) head.calibration.digital_minimum (whole_in bytes (120 * n + 8 * s) 8 head.calibration.digital_minimum (omega arith) h.digital_minimum))
    (read-whole (column_field bytes n s signal.DigitalMaximum) head.calibration.digital_maximum (whole_in bytes (128 * n + 8 * s) 8 head.calibration.digital_maximum (omega arith) h.digital_maximum)) in
    let made : List ℕ → List ℕ → List ℕ → List ℕ → List ℕ → CalibrationValue → ℕ → ℕ → SignalHead =
    λ a b d p r l k o. record { label = a; transducer = b; dimension = d; prefilter = p; reserved = r; calibration = l; samples = k; offset = o } in
    let t : SignalHead = signal_of bytes n s before in
    ap (λ a. made a head.transducer head.dimension head.prefilter head.reserved head.calibration head.samples head.offset) h.label
    ∙ ap (λ b. made t.label b head.dimension head.prefilter head.reserved head.calibration head.samples head.offset) h.transducer
    ∙ ap (λ d. made t.label t.transducer d head.prefilter head.reserved head.calibration head.samples head.offset) h.dimension
    ∙ ap (λ p. made t.label t.transducer t.dimension p head.reserved head.calibration head.samples head.offset) h.prefilter
    ∙ ap (λ r. made t.label t.transducer t.dimension t.prefilter r head.calibration head.samples head.offset) h.reserved
    ∙ ap (λ l. made t.label t.transducer t.dimension t.prefilter t.reserved l head.samples head.offset) line
    ∙ ap (λ k. made t.label t.transducer t.dimension t.prefilter t.reserved t.calibration k head.offset) (read-count (column_field bytes n s signal.Samples) head.samples (whole_in bytes (216 * n + 8 * s) 8 (pos head.samples) (omega arith) h.samples))
    ∙ ap (λ o. made t.label t.transducer t.dimension t.prefilter t.reserved t.calibration t.samples o) e

signals-read : (bytes : List ℕ) (n s before : ℕ) (heads : List SignalHead) → ((k : ℕ) (head : SignalHead) → slice_get heads k ≡ Some head → HasSignal (column_field bytes n (s + k)) head)
    → AreSideBySide before heads → heads ≡ signals_from bytes n s before (length heads)
signals-read bytes n s before [] each beside = refl
signals-read bytes n s before (head ∷ heads) each beside =
    let first-one : HasSignal (column_field bytes n s) head = subst (λ k. HasSignal (column_field bytes n k) head) (let at : s + 0 ≡ s = omega arith in at) (each 0 head refl) in
    let here : head ≡ signal_of bytes n s before = signal-read bytes n s before head first-one beside.0 in
    let rest = signals-read bytes n (s + 1) (before + 2 * head.samples) heads
    (λ k other e. subst (λ j. HasSignal (column_field bytes n j) other) (let at : s + suc k ≡ s + 1 + k = omega arith in at) (each (suc k) other e)) beside.1 in
    ap (λ xs. head ∷ xs) rest
    ∙ ap (λ (x : SignalHead). x ∷ signals_from bytes n (s + 1) (before + 2 * x.samples) (length heads)) here

-- the header that the file has is the one that is read of it
pub head-read : (file : List ℕ) (h : Head) → HeadInParts file h → h ≡ head_of file
unfolding head_of
head-read file h has =
    let front : List ℕ = fixed_part file in
    let t : Head = head_in front (columns_part (signals_of front) file) in
    let count : length h.signals ≡ signals_of front = read-count (fixed_field front fixed.Signals) (length h.signals) (whole_in front 252 4 (pos (length h.signals)) (omega arith) has.count) in
    let signals : h.signals ≡ t.signals =
    signals-read (columns_part (length h.signals) file) (length h.signals) 0 0 h.signals
    (λ k head e. subst (λ j. HasSignal (column_field (columns_part (length h.signals) file) (length h.signals) j) head) (let at : k ≡ 0 + k = omega arith in at) (has.signals k head e)) has.offsets
    ∙ ap (λ k. signals_in k (columns_part k file)) count in
    let recorded : h.recording.date ≡ t.recording.date = ap (λ r. r.date) (recording_is (fixed_field front fixed.Recording) h.recording has.recording) in
    let day : h.day ≡ t.day = day-read (text_of (fixed_field front fixed.Startdate)) t.recording.date h.day (subst (λ date. NamesStartdate (text_of (fixed_field front fixed.Startdate)) date h.day) recorded has.day) in
    let clock : h.clock ≡ t.clock = clock-read (text_of (fixed_field front fixed.Starttime)) h.clock has.clock in
    let spelled = from_picoseconds front 244 8 h.duration (omega arith) has.duration in
    let duration : h.duration ≡ t.duration = spelled.2 ∙ ap (λ units. units *ℤ pos 100000) (read-number (fixed_field front fixed.Duration) spelled.0 spelled.1) in
    let made : Patient → Recording → CivilDay → ℕ → Kind → List ℕ → ℕ → ℤ → List SignalHead → Head =
    λ p r d c k f n u l. record { patient = p; recording = r; day = d; clock = c; kind = k; free = f; records = n; duration = u; signals = l } in
    ap (λ p. made p h.recording h.day h.clock h.kind h.free h.records h.duration h.signals) (patient_is (fixed_field front fixed.Patient) h.patient has.patient)
    ∙ ap (λ r. made t.patient r h.day h.clock h.kind h.free h.records h.duration h.signals) (recording_is (fixed_field front fixed.Recording) h.recording has.recording)
    ∙ ap (λ d. made t.patient t.recording d h.clock h.kind h.free h.records h.duration h.signals) day
    ∙ ap (λ c. made t.patient t.recording t.day c h.kind h.free h.records h.duration h.signals) clock
    ∙ ap (λ k. made t.patient t.recording t.day t.clock k h.free h.records h.duration h.signals) (is-kind (fixed_field front fixed.Reserved) h.kind has.kind)
    ∙ ap (λ f. made t.patient t.recording t.day t.clock t.kind f h.records h.duration h.signals) has.free
    ∙ ap (λ n. made t.patient t.recording t.day t.clock t.kind t.free n h.duration h.signals) (read-count (fixed_field front fixed.Records) h.records (whole_in front 236 8 (pos h.records) (omega arith) has.records))
    ∙ ap (λ u. made t.patient t.recording t.day t.clock t.kind t.free t.records u h.signals) duration
    ∙ ap (λ l. made t.patient t.recording t.day t.clock t.kind t.free t.records t.duration l) signals
  where
    day-read : (text date : List ℕ) (day : CivilDay) → NamesStartdate text date day → day ≡ unwrap_or (startdate_of text date) first_day
    day-read text date day named = ap (λ o. unwrap_or o first_day) (sym (startdate-read text date day named))

    clock-read : (text : List ℕ) (n : ℕ) → NamesClockTime text n → n ≡ unwrap_or (clock_time_of text) 0
    clock-read text n named = ap (λ o. unwrap_or o 0) (clock_time_read (Some n) text named)

pub one_head : HasOneHead
one_head file h g has has2 = head-read file h (head_in_parts file h has) ∙ sym (head-read file g (head_in_parts file g has2))

pub passing_has_head : PassingHasHead
passing_has_head file h = head_from_parts file (head_of file) (has-head file h)

-- the bounds of a time, a count and a duration that were read
early-time : (field : List ℕ) (s : ℕ) → clock_time_of (text_of field) ≡ Some s → unwrap_or (clock_time_of (text_of field)) 0 < 86400
early-time field s e =
    let named = clock_time-some (text_of field) s e in
    let hours = named.1 in
    let minutes = named.2 in
    let seconds = named.3 in
    let value = named.4 in
    let early : s < 86400 = omega (arith, hours, minutes, seconds, value) in
    subst (λ o. unwrap_or o 0 < 86400) (sym e) early

some-count : (field : List ℕ) (n : ℕ) → whole_number_of field ≡ Some (pos n) → 1 ≤ n → 1 ≤ count_of (whole_number_of field)
some-count field n e h = subst (λ o. 1 ≤ count_of o) (sym e) h

few-count : (bytes : List ℕ) (at w n : ℕ) → whole_number_of (part bytes at w) ≡ Some (pos n) → count_of (whole_number_of (part bytes at w)) < 10 ^ w
few-count bytes at w n e = subst (λ o. count_of o < 10 ^ w) (sym e) (count-below bytes at w n e)

product : (n : ℕ) → pos n *ℤ pos 100000 ≡ pos (n * 100000)
product n = omega (arith, ints)

some-time : (field : List ℕ) (n : ℕ) → header_number_of field ≡ Some (pos n) → 1 ≤ n → pos 1 ≤ℤ (unwrap_or (header_number_of field) (pos 0) *ℤ pos 100000)
some-time field n e h =
    let long : pos 1 ≤ℤ pos (n * 100000) = omega (arith, ints, h) in
    subst (λ o. pos 1 ≤ℤ (unwrap_or o (pos 0) *ℤ pos 100000)) (sym e) (subst (λ z. pos 1 ≤ℤ z) (sym (product n)) long)

little-time : (field : List ℕ) (n : ℕ) → header_number_of field ≡ Some (pos n) → unsigned_abs (unwrap_or (header_number_of field) (pos 0) *ℤ pos 100000) < 10 ^ 20
little-time field n e =
    let below : n < 10 ^ 15 = header_number-below field (pos n) (header_number_of-some field (pos n) e) in
    let short : n * 100000 < 10 ^ 20 = omega (arith, below) in
    subst (λ o. unsigned_abs (unwrap_or o (pos 0) *ℤ pos 100000) < 10 ^ 20) (sym e) (subst (λ z. unsigned_abs z < 10 ^ 20) (sym (product n)) short)

pub sound-head : (file : List ℕ) → header_fault file ≡ None → IsSound (head_of file)
unfolding header_fault head_of
sound-head file h =
    let front : List ℕ = fixed_part file in
    let n : ℕ = signals_of front in
    let bytes : List ℕ = columns_part n file in
    let a = first-none (fixed_tests front) (columns_tests n bytes) h in
    let c0 = first-none (columns_missing columns n (length bytes)) (signals_faults bytes n 0 n ++ joint_faults (signals_in n bytes)) a.1 in
    let c1 = first-none (signals_faults bytes n 0 n) (joint_faults (signals_in n bytes)) c0.1 in
    let together = joint-passed (signals_in n bytes) c1.1 in
    let p = fixed-passes front a.0 in
    let text = text_of (fixed_field front fixed.Startdate) in
    let day = startdate-named (recording_in (fixed_field front fixed.Recording)).date (fixed_field front fixed.Startdate) p.startdate in
    let clock = starttime-named (fixed_field front fixed.Starttime) p.starttime in
    let records = records-passed (fixed_field front fixed.Records) p.records in
    let duration = duration-passed (fixed_field front fixed.Duration) p.duration in
    let signals = signals-passed (fixed_field front fixed.Signals) p.signals in
    let patient = patient-said (fixed_field front fixed.Patient) (patient-passed (fixed_field front fixed.Patient) p.patient) in
    let recording = recording-said (fixed_field front fixed.Recording) (recording-passed (fixed_field front fixed.Recording) p.recording) in
    let date = (recording_in (fixed_field front fixed.Recording)).date in
    let long : length (signals_in n bytes) ≡ n = length-signals bytes n 0 0 n in
    let few : n < 10 ^ 4 = few-count front 252 4 signals.0 signals.1 in
    let small = together.small in
    record {
      standard = record {
        same_day = λ m named. same-day text date day.0.0 m day.0.1 day.1 named ∙ ap (λ o. day_number (unwrap_or o first_day)) (sym day.0.1);
        some_records = some-count (fixed_field front fixed.Records) records.0 records.1 records.2;
        some_time = some-time (fixed_field front fixed.Duration) duration.0 duration.1 duration.2;
        annotations = together.annotations;
        channel = together.channel;
        distinct = together.distinct;
        signals = signals-sound bytes n 0 0 n c1.0;
        small_record = omega (arith, small);
      };
      bounds = record {
        near = subst (λ o. unsigned_abs (day_number (unwrap_or o first_day)) < 5000000) (sym day.0.1) (near-day text date day.0.0 (startdate-said text date day.0.0 day.0.1 day.1));
        early = early-time (fixed_field front fixed.Starttime) clock.0 clock.1;
        few_records = few-count front 236 8 records.0 records.1;
        little_time = little-time (fixed_field front fixed.Duration) duration.0 duration.1;
        few_signals = subst (λ k. k < 10 ^ 4) (sym long) few;
        signals = signals-short bytes n 0 0 n c1.0;
      };
      sex = patient.sex;
      birthdate = patient.birthdate;
      date = recording.date;
      offsets = side-by-side bytes n 0 0 n;
    }

pub passing_is_sound : PassingIsSound
passing_is_sound file h = sound-head file h
