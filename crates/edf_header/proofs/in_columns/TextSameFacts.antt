-- What a field says without some of the spaces at its end.
use Rattle.std.proofs.Common.{◌≡◌, ℕ, ◌≤◌, ◌&&◌, ◌||◌, not, ℤ, pos, neg_ℤ, Option, List, [], ◌∷◌, length, nat_le, true, cond, None, Some, sym, ap, ◌∙◌, arith}
use Rattle.std.specs.Ordering.{int_eq}
use Rattle.std.proofs.lemmas.Bool.Decides.{nat_tests}
use Rattle.edf_fields.specs.Parts.{text_of}
use Rattle.edf_fields.specs.texts.Numbers.{has_minus, unsigned, signed, weight, decimal, before_dot, behind_dot}
use Rattle.edf_fields.specs.texts.NumbersReading.{header_number_of, whole_number_of, is_whole, is_decimal}
use Rattle.edf_fields.specs.declared.faults.fault.Place.{Place}
use Rattle.edf_fields.specs.declared.faults.fault.Cause.TheVariants.{NotPrintable, BadAnnotationSignal}
use Rattle.edf_fields.specs.declared.faults.fault.Place.TheVariants.{AtSignal}
use Rattle.edf_fields.specs.declared.fields.layout.SignalField.TheVariants as signal
use Rattle.edf_header.specs.signals.Calibrations.{CalibrationValue}
use Rattle.edf_header.specs.Faults.{fault_unless, not_printable, annotation_fault, digital_order_fault, physical_differ_fault, agreement_faults}
use Rattle.edf_header.specs.Heads.{is_annotations}
use Rattle.edf_header.specs.Narrow.{SaysTheSame}

pub same_printable : (front field : List ℕ) (place : Place) → SaysTheSame front field → not_printable place front ≡ not_printable place field
unfolding not_printable
same_printable front field place h = ap (λ b. fault_unless b place NotPrintable) h.printable

eight : (n : ℕ) → n ≤ 8 → nat_le n 8 ≡ true
eight n h = grind (arith, nat_tests)

pub same_whole_number : (front field : List ℕ) → SaysTheSame front field → length field ≤ 8 → whole_number_of front ≡ whole_number_of field
unfolding whole_number_of
same_whole_number front field h short =
    let said : List ℕ → Option ℤ = λ t. cond (is_whole t) (Some (signed (has_minus t) (weight (unsigned t)))) None in
    ap (λ b. cond (b && is_whole (text_of front)) (Some (signed (has_minus (text_of front)) (weight (unsigned (text_of front))))) None) (eight (length front) (omega (arith, h.within, short)))
    ∙ ap said h.text
    ∙ ap (λ b. cond (b && is_whole (text_of field)) (Some (signed (has_minus (text_of field)) (weight (unsigned (text_of field))))) None) (sym (eight (length field) short))

pub same_header_number : (front field : List ℕ) → SaysTheSame front field → length field ≤ 8 → header_number_of front ≡ header_number_of field
unfolding header_number_of
same_header_number front field h short =
    let said : List ℕ → Option ℤ = λ t. cond (is_decimal t) (Some (signed (has_minus t) (decimal 7 (before_dot (unsigned t)) (behind_dot (unsigned t))))) None in
    ap (λ b. cond (b && is_decimal (text_of front)) (Some (signed (has_minus (text_of front)) (decimal 7 (before_dot (unsigned (text_of front))) (behind_dot (unsigned (text_of front)))))) None) (eight (length front) (omega (arith, h.within, short)))
    ∙ ap said h.text
    ∙ ap (λ b. cond (b && is_decimal (text_of field)) (Some (signed (has_minus (text_of field)) (decimal 7 (before_dot (unsigned (text_of field))) (behind_dot (unsigned (text_of field)))))) None) (sym (eight (length field) short))

pub same_annotation : (s : ℕ) (front field : List ℕ) (line : CalibrationValue) → SaysTheSame front field → annotation_fault s front line ≡ annotation_fault s field line
unfolding annotation_fault
same_annotation s front field line h = ap (λ t. fault_unless (not (is_annotations t) || (int_eq line.digital_minimum (neg_ℤ (pos 32768)) && int_eq line.digital_maximum (pos 32767))) (AtSignal s signal.Label) BadAnnotationSignal) h.text

-- the tests of what the fields say together ask the label for its text alone
pub same_agreement : (s : ℕ) (front field : List ℕ) (line : CalibrationValue) → SaysTheSame front field → agreement_faults s front line ≡ agreement_faults s field line
same_agreement s front field line h =
    ap (λ t. digital_order_fault s line ∷ physical_differ_fault s line ∷ t ∷ []) (same_annotation s front field line h)
