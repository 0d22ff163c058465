-- What holds of a header whose bytes passed their tests.
use Rattle.std.proofs.Common.{◌≡◌, ◌≢◌, ℕ, zero, suc, ℤ, pos, neg_ℤ, ◌+◌, ◌*◌, ◌^◌, ◌≤◌, ◌<◌, ◌≤ℤ◌, ◌<ℤ◌, ◌&&◌, ◌||◌, not, int_lt, Bool, true, false, List, [], ◌∷◌, ◌++◌, length, drop, unwrap_or, unsigned_abs, Option, Some, None, refl, sym, ◌∙◌, arith, lit<}
use Rattle.std.specs.List.{All}
use Rattle.std.specs.Ordering.{int_eq}
use Rattle.std.proofs.lemmas.Bool.Decides.{Decides-int_eq}
use Rattle.std.proofs.lemmas.Int.{ints}
use Rattle.std.proofs.lemmas.List.{length-take}
use Rattle.std.proofs.lemmas.List.Elements.{All-nil, All-cons}
use Rattle.std.proofs.Math.Nat.{pow-le-pow_right}
use Rattle.edf_fields.specs.Parts.{text_of, part}
use Rattle.edf_fields.specs.texts.NumbersReading.{whole_number_of, header_number_of}
use Rattle.edf_fields.proofs.ForCallers.{whole_number_of-some, header_number_of-some, whole_number-below, header_number-below, first-none, first-cons, and-true, not-true}
use Rattle.edf_fields.specs.declared.fields.layout.SignalField.TheVariants as signal
use Rattle.edf_fields.specs.declared.faults.fault.Place.TheVariants.{AtSignal}
use Rattle.edf_fields.specs.declared.faults.fault.Cause.TheVariants.{BadRange, BadAnnotationSignal}
use Rattle.edf_header.specs.signals.Calibrations.{CalibrationValue}
use Rattle.edf_fields.specs.fields.LayoutReading.{column_before, column_field}
use Rattle.edf_header.specs.Heads.{AreSideBySide, is_annotations}
use Rattle.edf_header.specs.HeadsReading.{line_of, signal_of, signals_from}
use Rattle.edf_header.specs.Faults.{text_fault, physical_fault, digital_fault, samples_fault, digital_order_fault, physical_differ_fault, annotation_fault, naming_faults, extreme_faults, sampling_faults, agreement_faults, signal_faults, signals_faults}
use Rattle.edf_fields.specs.Tests.{first}
use Rattle.edf_header.specs.Sound.{HasShortNumbers}
use Rattle.edf_header.specs.Standard.{IsSoundSignal}
use Rattle.edf_header.proofs.PassedFacts.{fault_unless-passed, physical-passed, digital-passed, samples-passed}

pub side-by-side : (bytes : List ℕ) (n s before m : ℕ) → AreSideBySide before (signals_from bytes n s before m)
side-by-side bytes n s before zero = tt
side-by-side bytes n s before (suc m) = (refl, side-by-side bytes n (s + 1) (before + 2 * (signal_of bytes n s before).samples) m)

pub order-passed : (s : ℕ) (line : CalibrationValue) → digital_order_fault s line ≡ None → line.digital_minimum <ℤ line.digital_maximum
unfolding digital_order_fault
order-passed s line h =
    let t : int_lt line.digital_minimum line.digital_maximum ≡ true = fault_unless-passed (int_lt line.digital_minimum line.digital_maximum) (AtSignal s signal.DigitalMaximum) BadRange h in
    omega (arith, ints, t)

pub differ-passed : (s : ℕ) (line : CalibrationValue) → physical_differ_fault s line ≡ None → line.physical_minimum ≢ line.physical_maximum
unfolding physical_differ_fault
differ-passed s line h e =
    let t : int_eq line.physical_minimum line.physical_maximum ≡ false =
    not-true (int_eq line.physical_minimum line.physical_maximum) (fault_unless-passed (not (int_eq line.physical_minimum line.physical_maximum)) (AtSignal s signal.PhysicalMaximum) BadRange h) in
    let u : int_eq line.physical_minimum line.physical_maximum ≡ true = (Decides-int_eq line.physical_minimum line.physical_maximum).1 e in
    let z : true ≡ false = sym u ∙ t in
    cc

or-else : (a b : Bool) → (not a || b) ≡ true → a ≡ true → b ≡ true
or-else true b h e = h
or-else false b h e = absurd (let z : false ≡ true = e in cc)

pub annotation-passed : (s : ℕ) (label : List ℕ) (line : CalibrationValue) → annotation_fault s label line ≡ None → is_annotations (text_of label) ≡ true
    → (line.digital_minimum ≡ neg_ℤ (pos 32768)) × (line.digital_maximum ≡ pos 32767)
unfolding annotation_fault
annotation-passed s label line h e =
    let low : Bool = int_eq line.digital_minimum (neg_ℤ (pos 32768)) in
    let high : Bool = int_eq line.digital_maximum (pos 32767) in
    let both = and-true low high (or-else (is_annotations (text_of label)) (low && high)
    (fault_unless-passed (not (is_annotations (text_of label)) || (low && high)) (AtSignal s signal.Label) BadAnnotationSignal h) e) in
    ((Decides-int_eq line.digital_minimum (neg_ℤ (pos 32768))).0 both.0, (Decides-int_eq line.digital_maximum (pos 32767)).0 both.1)

-- what the tests of signal s say of its fields
pub record Passes (bytes : List ℕ) (n s : ℕ) : Type 0 where
  pub physical_minimum : (v : ℤ) × (header_number_of (column_field bytes n s signal.PhysicalMinimum) ≡ Some v)
  pub physical_maximum : (v : ℤ) × (header_number_of (column_field bytes n s signal.PhysicalMaximum) ≡ Some v)
  pub digital_minimum : (v : ℤ) × (whole_number_of (column_field bytes n s signal.DigitalMinimum) ≡ Some v) × (neg_ℤ (pos 32768) ≤ℤ v) × (v ≤ℤ pos 32767)
  pub digital_maximum : (v : ℤ) × (whole_number_of (column_field bytes n s signal.DigitalMaximum) ≡ Some v) × (neg_ℤ (pos 32768) ≤ℤ v) × (v ≤ℤ pos 32767)
  pub samples : (k : ℕ) × (whole_number_of (column_field bytes n s signal.Samples) ≡ Some (pos k)) × (1 ≤ k)
  pub order : digital_order_fault s (line_of bytes n s) ≡ None
  pub differ : physical_differ_fault s (line_of bytes n s) ≡ None
  pub annotations : annotation_fault s (column_field bytes n s signal.Label) (line_of bytes n s) ≡ None

pub signal-passes : (bytes : List ℕ) (n s : ℕ) → first (signal_faults bytes n s) ≡ None → Passes bytes n s
signal-passes bytes n s h =
    let together = agreement_faults s (column_field bytes n s signal.Label) (line_of bytes n s) in
    let a = first-none (naming_faults bytes n s) (extreme_faults bytes n s ++ (sampling_faults bytes n s ++ together)) h in
    let b = first-none (extreme_faults bytes n s) (sampling_faults bytes n s ++ together) a.1 in
    let d = first-none (sampling_faults bytes n s) together b.1 in
    let plow = physical_fault s signal.PhysicalMinimum (column_field bytes n s signal.PhysicalMinimum) in
    let phigh = physical_fault s signal.PhysicalMaximum (column_field bytes n s signal.PhysicalMaximum) in
    let dlow = digital_fault s signal.DigitalMinimum (column_field bytes n s signal.DigitalMinimum) in
    let dhigh = digital_fault s signal.DigitalMaximum (column_field bytes n s signal.DigitalMaximum) in
    let count = samples_fault s (column_field bytes n s signal.Samples) in
    let reserved = text_fault s signal.Reserved (column_field bytes n s signal.Reserved) in
    let annotation = annotation_fault s (column_field bytes n s signal.Label) (line_of bytes n s) in
    let differ = physical_differ_fault s (line_of bytes n s) in
    let e0 = first-cons plow (phigh ∷ dlow ∷ dhigh ∷ []) b.0 in
    let e1 = first-cons phigh (dlow ∷ dhigh ∷ []) e0.1 in
    let e2 = first-cons dlow (dhigh ∷ []) e1.1 in
    let e3 = first-cons dhigh [] e2.1 in
    let s0 = first-cons (text_fault s signal.Prefilter (column_field bytes n s signal.Prefilter)) (count ∷ reserved ∷ []) d.0 in
    let s1 = first-cons count (reserved ∷ []) s0.1 in
    let t0 = first-cons (digital_order_fault s (line_of bytes n s)) (differ ∷ annotation ∷ []) d.1 in
    let t1 = first-cons differ (annotation ∷ []) t0.1 in
    let t2 = first-cons annotation [] t1.1 in
    record {
      physical_minimum = physical-passed s signal.PhysicalMinimum (column_field bytes n s signal.PhysicalMinimum) e0.0;
      physical_maximum = physical-passed s signal.PhysicalMaximum (column_field bytes n s signal.PhysicalMaximum) e1.0;
      digital_minimum = digital-passed s signal.DigitalMinimum (column_field bytes n s signal.DigitalMinimum) e2.0;
      digital_maximum = digital-passed s signal.DigitalMaximum (column_field bytes n s signal.DigitalMaximum) e3.0;
      samples = samples-passed s (column_field bytes n s signal.Samples) s1.0;
      order = t0.0;
      differ = t1.0;
      annotations = t2.0;
    }

spelled-small : (o : Option ℤ) (v : ℤ) → o ≡ Some v → unsigned_abs v < 10 ^ 15 → unsigned_abs (unwrap_or o (pos 0)) < 10 ^ 15
spelled-small o v e h = rw e h

number-small : (field : List ℕ) (v : ℤ) → header_number_of field ≡ Some v → unsigned_abs (unwrap_or (header_number_of field) (pos 0)) < 10 ^ 15
number-small field v e = spelled-small (header_number_of field) v e (header_number-below field v (header_number_of-some field v e))

-- what a field of w bytes counts has w digits at the most
pub count-below : (bytes : List ℕ) (at w k : ℕ) → whole_number_of (part bytes at w) ≡ Some (pos k) → k < 10 ^ w
count-below bytes at w k e =
    let below : unsigned_abs (pos k) < 10 ^ length (part bytes at w) = whole_number-below (part bytes at w) (pos k) (whole_number_of-some (part bytes at w) (pos k) e) in
    let short : length (part bytes at w) ≤ w = omega (arith, length-take w (drop at bytes)) in
    let most : 10 ^ length (part bytes at w) ≤ 10 ^ w = pow-le-pow_right (lit< tt) short in
    let small : k < 10 ^ length (part bytes at w) = below in
    omega (arith, small, most)

pub passes-sound : (bytes : List ℕ) (n s before : ℕ) → Passes bytes n s → IsSoundSignal (signal_of bytes n s before)
passes-sound bytes n s before p = record {
  low = rw (p.digital_minimum).1 (p.digital_minimum).2;
  high = rw (p.digital_maximum).1 (p.digital_maximum).3;
  order = order-passed s (line_of bytes n s) p.order;
  differ = differ-passed s (line_of bytes n s) p.differ;
  some_samples = rw (p.samples).1 (p.samples).2;
  annotations = λ e. annotation-passed s (column_field bytes n s signal.Label) (line_of bytes n s) p.annotations e;
}

passes-short : (bytes : List ℕ) (n s before : ℕ) → Passes bytes n s → HasShortNumbers (signal_of bytes n s before)
passes-short bytes n s before p = record {
  extremes = record {
    small_minimum = number-small (column_field bytes n s signal.PhysicalMinimum) (p.physical_minimum).0 (p.physical_minimum).1;
    small_maximum = number-small (column_field bytes n s signal.PhysicalMaximum) (p.physical_maximum).0 (p.physical_maximum).1;
  };
  few_samples = rw (p.samples).1 (count-below bytes (column_before signal.Samples * n + 8 * s) 8 (p.samples).0 (p.samples).1);
}

pub signals-sound : (bytes : List ℕ) (n s before m : ℕ) → first (signals_faults bytes n s m) ≡ None → All IsSoundSignal (signals_from bytes n s before m)
signals-sound bytes n s before zero h = All-nil IsSoundSignal
signals-sound bytes n s before (suc m) h =
    let parts = first-none (signal_faults bytes n s) (signals_faults bytes n (s + 1) m) h in
    All-cons IsSoundSignal (signal_of bytes n s before) (signals_from bytes n (s + 1) (before + 2 * (signal_of bytes n s before).samples) m)
    (passes-sound bytes n s before (signal-passes bytes n s parts.0))
    (signals-sound bytes n (s + 1) (before + 2 * (signal_of bytes n s before).samples) m parts.1)

pub signals-short : (bytes : List ℕ) (n s before m : ℕ) → first (signals_faults bytes n s m) ≡ None → All HasShortNumbers (signals_from bytes n s before m)
signals-short bytes n s before zero h = All-nil HasShortNumbers
signals-short bytes n s before (suc m) h =
    let parts = first-none (signal_faults bytes n s) (signals_faults bytes n (s + 1) m) h in
    All-cons HasShortNumbers (signal_of bytes n s before) (signals_from bytes n (s + 1) (before + 2 * (signal_of bytes n s before).samples) m)
    (passes-short bytes n s before (signal-passes bytes n s parts.0))
    (signals-short bytes n (s + 1) (before + 2 * (signal_of bytes n s before).samples) m parts.1)
