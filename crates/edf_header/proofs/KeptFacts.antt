-- What the code keeps of a header holds, where its bytes passed their tests.
use Rattle.std.proofs.Common.{◌≡◌, ℕ, ℤ, ◌*◌, ◌≤◌, List, [], ◌∷◌, ◌++◌, length, None, unwrap_or, sym, ap, ◌∙◌, subst}
use Rattle.std.specs.List.{All}
use Rattle.edf_fields.specs.Parts.{text_of}
use Rattle.edf_fields.specs.texts.Dates.{NamesDashedDay, civil_day}
use Rattle.edf_fields.specs.texts.Identifications.{Patient, Recording, SaysPatient, SaysRecording}
use Rattle.edf_fields.specs.texts.IdentificationsReading.{patient_cause, recording_cause}
use Rattle.edf_fields.proofs.ForCallers.{patient_or_cause, recording_or_cause, first-none, first-cons}
use Rattle.edf_header.specs.declared.fixed_part.fixed.RecordingStart.{RecordingStart}
use Rattle.edf_header.specs.declared.fixed_part.fixed.Extent.{Extent}
use Rattle.edf_fields.specs.declared.fields.layout.FixedField.TheVariants as fixed
use Rattle.edf_fields.specs.fields.Layout.{fixed_field}
use Rattle.edf_fields.specs.fields.LayoutReading.{fixed_fields, columns}
use Rattle.edf_header.specs.Heads.{SignalHead, AreSideBySide, day_number, samples_together}
use Rattle.edf_header.specs.HeadsReading.{first_day, patient_in, recording_in, signals_in}
use Rattle.edf_header.specs.Judged.{SaysStart, SaysExtent}
use Rattle.edf_header.specs.Sound.{HasShortNumbers}
use Rattle.edf_header.specs.Standard.{IsSoundSignal}
use Rattle.edf_header.specs.Views.{IsKept}
use Rattle.edf_header.specs.Faults.{version_fault, patient_fault, recording_fault, startdate_fault, starttime_fault, fixed_missing, start_faults, extent_faults, fixed_fault, columns_missing, signals_faults, joint_faults, columns_tests}
use Rattle.edf_fields.specs.Tests.{first}
use Rattle.edf_header.proofs.fixed_part.StartdateFacts.{startdate-named, same-day}
use Rattle.edf_header.proofs.SaidFacts.{patient_is, recording_is}
use Rattle.edf_header.proofs.signals.SignalFacts.{length-signals}
use Rattle.edf_header.proofs.SoundFacts.{side-by-side, signals-sound, signals-short}
use Rattle.edf_header.proofs.signals.ChannelFacts.{joint-passed}

pub patient-said : (field : List ℕ) → patient_cause field ≡ None → SaysPatient field (patient_in field)
patient-said field h =
    let r = (patient_or_cause field).0 h in
    subst (λ (p : Patient). SaysPatient field p) (patient_is field r.0 r.1) r.1

pub recording-said : (field : List ℕ) → recording_cause field ≡ None → SaysRecording field (recording_in field)
recording-said field h =
    let r = (recording_or_cause field).0 h in
    subst (λ (p : Recording). SaysRecording field p) (recording_is field r.0 r.1) r.1

-- the test of the startdate among those of the fields up to the starttime
startdate-of : (front : List ℕ) → fixed_fault front ≡ None → startdate_fault (recording_in (fixed_field front fixed.Recording)).date (fixed_field front fixed.Startdate) ≡ None
unfolding fixed_fault
startdate-of front h =
    let a = first-none (fixed_missing fixed_fields (length front)) (start_faults front ++ extent_faults front) h in
    let b = first-none (start_faults front) (extent_faults front) a.1 in
    let version = version_fault (fixed_field front fixed.Version) in
    let patient = patient_fault (fixed_field front fixed.Patient) in
    let recording = recording_fault (fixed_field front fixed.Recording) in
    let startdate = startdate_fault (recording_in (fixed_field front fixed.Recording)).date (fixed_field front fixed.Startdate) in
    let starttime = starttime_fault (fixed_field front fixed.Starttime) in
    let c0 = first-cons version (patient ∷ recording ∷ startdate ∷ starttime ∷ []) b.0 in
    let c1 = first-cons patient (recording ∷ startdate ∷ starttime ∷ []) c0.1 in
    let c2 = first-cons recording (startdate ∷ starttime ∷ []) c1.1 in
    (first-cons startdate (starttime ∷ []) c2.1).0

pub kept : (front bytes : List ℕ) (start : RecordingStart) (extent : Extent) (signals : List SignalHead) (size : ℕ) → 256 ≤ length front
    → SaysStart front start → SaysExtent front extent → fixed_fault front ≡ None → first (columns_tests extent.signals bytes) ≡ None
    → signals ≡ signals_in extent.signals bytes → size ≡ 2 * samples_together signals → size ≤ 16777216
    → IsKept front start extent signals size
kept front bytes start extent signals size long s x passed columns-passed e total small =
    let n = extent.signals in
    let c0 = first-none (columns_missing columns n (length bytes)) (signals_faults bytes n 0 n ++ joint_faults (signals_in n bytes)) columns-passed in
    let c1 = first-none (signals_faults bytes n 0 n) (joint_faults (signals_in n bytes)) c0.1 in
    let together = joint-passed (signals_in n bytes) c1.1 in
    let patient = patient-said (fixed_field front fixed.Patient) s.patient in
    let recording = recording-said (fixed_field front fixed.Recording) s.recording in
    let date = (recording_in (fixed_field front fixed.Recording)).date in
    let text = text_of (fixed_field front fixed.Startdate) in
    let start_day = startdate-named date (fixed_field front fixed.Startdate) (startdate-of front passed) in
    let same : (m : ℤ) → NamesDashedDay date m → m ≡ day_number (civil_day start.date) =
    λ m named. same-day text date start_day.0.0 m start_day.0.1 start_day.1 named ∙ ap (λ o. day_number (unwrap_or o first_day)) (sym start_day.0.1) ∙ ap day_number s.day in
    let long-signals : length signals ≡ n = ap length e ∙ length-signals bytes n 0 0 n in
    let each : All IsSoundSignal signals = subst (All IsSoundSignal) (sym e) (signals-sound bytes n 0 0 n c1.0) in
    let short : All HasShortNumbers signals = subst (All HasShortNumbers) (sym e) (signals-short bytes n 0 0 n c1.0) in
    let beside : AreSideBySide 0 signals = subst (AreSideBySide 0) (sym e) (side-by-side bytes n 0 0 n) in
    record {
      long = long;
      patient = s.patient;
      recording = s.recording;
      days = s.days;
      record_size = total;
      sound = record {
        standard = record {
          same_day = same;
          some_records = x.some_records;
          some_time = x.some_time;
          annotations = rw e together.annotations;
          channel = rw e together.channel;
          distinct = rw e together.distinct;
          signals = each;
          small_record = rw (sym total) small;
        };
        bounds = record { near = s.near; early = s.early; few_records = x.few_records; little_time = x.little_time; few_signals = rw long-signals x.few_signals; signals = short };
        sex = patient.sex;
        birthdate = patient.birthdate;
        date = recording.date;
        offsets = beside;
      };
    }
