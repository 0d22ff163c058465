-- What tests that passed say.
use Rattle.std.proofs.Common.{◌≡◌, ℕ, ℤ, pos, negsuc, neg_ℤ, ◌≤◌, ◌≤ℤ◌, ◌&&◌, int_le, Bool, true, false, List, [], ◌∷◌, Option, Some, None, refl, arith}
use Rattle.std.proofs.lemmas.Int.{ints}
use Rattle.edf_fields.specs.texts.NumbersReading.{whole_number_of, header_number_of}
use Rattle.edf_fields.specs.declared.faults.fault.Place.{Place}
use Rattle.edf_fields.specs.declared.faults.fault.Place.TheVariants.{AtSignal}
use Rattle.edf_fields.specs.declared.faults.fault.Cause.{Cause}
use Rattle.edf_fields.specs.declared.faults.fault.Cause.TheVariants.{BadNumber, BadRange}
use Rattle.edf_fields.specs.declared.fields.layout.SignalField.{SignalField}
use Rattle.edf_fields.specs.declared.fields.layout.SignalField.TheVariants as signal
use Rattle.edf_header.specs.Faults.{fault, fault_unless, not_printable, no_number, not_within, not_positive, not_named, physical_fault, digital_fault, samples_fault}
use Rattle.edf_fields.proofs.ForCallers.{first-cons, and-true, le-tested}

pub fault_unless-passed : (b : Bool) (place : Place) (cause : Cause) → fault_unless b place cause ≡ None → b ≡ true
fault_unless-passed true place cause h = refl
fault_unless-passed false place cause h = absurd (let e : fault place cause ≡ None = h in cc)

pub number-passed : (place : Place) (o : Option ℤ) → no_number place o ≡ None → (v : ℤ) × (o ≡ Some v)
number-passed place None h = absurd (let e : fault place BadNumber ≡ None = h in cc)
number-passed place (Some v) h = (v, refl)

pub named-passed : {X : Type 0} (place : Place) (cause : Cause) (o : Option X) → not_named place cause o ≡ None → (x : X) × (o ≡ Some x)
named-passed place cause None h = absurd (let e : fault place cause ≡ None = h in cc)
named-passed place cause (Some x) h = (x, refl)

pub within-passed : (place : Place) (low high : ℤ) (o : Option ℤ) → not_within place low high o ≡ None → (v : ℤ) × (o ≡ Some v) × (low ≤ℤ v) × (v ≤ℤ high)
within-passed place low high None h = absurd (let e : fault place BadNumber ≡ None = h in cc)
within-passed place low high (Some v) h =
    let both = and-true (int_le low v) (int_le v high) (fault_unless-passed (int_le low v && int_le v high) place BadRange h) in
    (v, refl, le-tested low v both.0, le-tested v high both.1)

pub positive-passed : (place : Place) (o : Option ℤ) → not_positive place o ≡ None → (n : ℕ) × (o ≡ Some (pos n)) × (1 ≤ n)
positive-passed place None h = absurd (let e : fault place BadNumber ≡ None = h in cc)
positive-passed place (Some (pos n)) h =
    let le : pos 1 ≤ℤ pos n = le-tested (pos 1) (pos n) (fault_unless-passed (int_le (pos 1) (pos n)) place BadRange h) in
    (n, refl, omega (arith, ints, le))
positive-passed place (Some (negsuc n)) h =
    let le : pos 1 ≤ℤ negsuc n = le-tested (pos 1) (negsuc n) (fault_unless-passed (int_le (pos 1) (negsuc n)) place BadRange h) in
    absurd (omega (arith, ints, le))

pub physical-passed : (s : ℕ) (field : SignalField) (bytes : List ℕ) → physical_fault s field bytes ≡ None → (v : ℤ) × (header_number_of bytes ≡ Some v)
unfolding physical_fault
physical-passed s field bytes h =
    let rest = first-cons (not_printable (AtSignal s field) bytes) (no_number (AtSignal s field) (header_number_of bytes) ∷ []) h in
    number-passed (AtSignal s field) (header_number_of bytes) (first-cons (no_number (AtSignal s field) (header_number_of bytes)) [] rest.1).0

pub digital-passed : (s : ℕ) (field : SignalField) (bytes : List ℕ) → digital_fault s field bytes ≡ None
    → (v : ℤ) × (whole_number_of bytes ≡ Some v) × (neg_ℤ (pos 32768) ≤ℤ v) × (v ≤ℤ pos 32767)
unfolding digital_fault
digital-passed s field bytes h =
    let test = not_within (AtSignal s field) (neg_ℤ (pos 32768)) (pos 32767) (whole_number_of bytes) in
    let rest = first-cons (not_printable (AtSignal s field) bytes) (test ∷ []) h in
    within-passed (AtSignal s field) (neg_ℤ (pos 32768)) (pos 32767) (whole_number_of bytes) (first-cons test [] rest.1).0

pub samples-passed : (s : ℕ) (bytes : List ℕ) → samples_fault s bytes ≡ None → (n : ℕ) × (whole_number_of bytes ≡ Some (pos n)) × (1 ≤ n)
unfolding samples_fault
samples-passed s bytes h =
    let test = not_positive (AtSignal s signal.Samples) (whole_number_of bytes) in
    let rest = first-cons (not_printable (AtSignal s signal.Samples) bytes) (test ∷ []) h in
    positive-passed (AtSignal s signal.Samples) (whole_number_of bytes) (first-cons test [] rest.1).0
