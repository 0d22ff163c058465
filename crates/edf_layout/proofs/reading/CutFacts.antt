-- The header of a file stands in its first bytes.
use Rattle.std.proofs.Common.{◌≡◌, ◌⊎◌, inl, inr, ℕ, zero, suc, pos, ◌+◌, ◌*◌, ◌<◌, ◌≤◌, min, List, [], ◌++◌, length, take, drop, Some, None, arith, refl, ap, ◌∙◌, sym, subst}
use Rattle.std.proofs.Math.Seq.{take-add}
use Rattle.std.proofs.lemmas.List.{length-take, length-append, take-take, take_at, drop-take, drop-drop}
use Rattle.std.proofs.lemmas.Bool.{cases_lt}
use Rattle.edf_fields.specs.declared.fields.layout.FixedField.TheVariants as fixed
use Rattle.edf_fields.specs.fields.Layout.{fixed_field}
use Rattle.edf_fields.specs.fields.LayoutReading.{fixed_part, columns_part}
use Rattle.edf_fields.proofs.ForCallers.{whole_number_of-spelled, whole_in}
use Rattle.edf_fields.specs.Tests.{first}
use Rattle.edf_header.specs.Conforming.{HeaderConforms}
use Rattle.edf_header.specs.Faults.{fixed_tests, columns_tests, header_fault}
use Rattle.edf_header.specs.Heads.{Head}
use Rattle.edf_header.specs.HeadsReading.{count_of, signals_of, head_in, head_of}
use Rattle.edf_header.proofs.ForCallers.{passing-conforms, head_in_parts}
use Rattle.edf_fields.specs.declared.faults.fault.Fault.{Fault}
use Rattle.edf_header.specs.declared.stop.Stop.{Stop}
use Rattle.edf_header.specs.declared.stop.Stop.TheVariants as stops
use Rattle.edf_header.specs.Stops.{Stops}
use Rattle.edf_layout.specs.HeadFiles.{IsWhole, IsHeadFile}
use Rattle.edf_layout.proofs.FieldFacts.{nothing-behind}

-- the first bytes of a file: its fixed part, and the columns of n signals
abbrev pub cut : List ℕ → ℕ → List ℕ
cut file n = take 256 file ++ take (256 * n) (drop 256 file)

cut-is : (file : List ℕ) (n : ℕ) → cut file n ≡ take (256 + 256 * n) file
cut-is file n = sym (take-add 256 (256 * n) file)

pub cut-front : (file : List ℕ) (n : ℕ) → fixed_part (cut file n) ≡ fixed_part file
cut-front file n =
    ap (take 256) (cut-is file n) ∙ take-take 256 (256 + 256 * n) file (omega arith)

none-taken : (k : ℕ) → take {A = ℕ} k [] ≡ []
none-taken zero = refl
none-taken (suc k) = refl

-- the columns of as many signals, or none where the file ends before them
pub cut-columns : (file : List ℕ) (n k : ℕ) → (k ≤ n) ⊎ (length file ≤ 256) → columns_part k (cut file n) ≡ columns_part k file
cut-columns file n k few =
    ap (λ xs. take (256 * k) (drop 256 xs)) (cut-is file n)
    ∙ ap (take (256 * k)) (drop-take 256 (256 * n) file)
    ∙ elim few [
      | inl low ↦ take-take (256 * k) (256 * n) (drop 256 file) (omega arith)
      | inr short ↦ ap (λ xs. take (256 * k) xs) (ap (λ xs. take (256 * n) xs) (nothing-behind file 256 short) ∙ none-taken (256 * n) ∙ sym (nothing-behind file 256 short))
    ]

-- how many signals are read for: as many as the fixed part says, if it is there
abbrev pub IsCount : List ℕ → ℕ → Type 0
IsCount file n = (signals_of (fixed_part file) ≤ n) ⊎ (length file ≤ 256)

pub cut-fault : (file : List ℕ) (n : ℕ) → IsCount file n → header_fault (cut file n) ≡ header_fault file
unfolding header_fault
cut-fault file n count =
    ap (λ front. first (fixed_tests front ++ columns_tests (signals_of front) (columns_part (signals_of front) (cut file n)))) (cut-front file n)
    ∙ ap (λ xs. first (fixed_tests (fixed_part file) ++ columns_tests (signals_of (fixed_part file)) xs)) (cut-columns file n (signals_of (fixed_part file)) count)

pub cut-head : (file : List ℕ) (n : ℕ) → IsCount file n → head_of (cut file n) ≡ head_of file
unfolding head_of
cut-head file n count =
    ap (λ front. head_in front (columns_part (signals_of front) (cut file n))) (cut-front file n)
    ∙ ap (λ xs. head_in (fixed_part file) xs) (cut-columns file n (signals_of (fixed_part file)) count)

-- a header that is in order has as many signals as its fixed part says
pub signals-said : (file : List ℕ) (h : Head) → HeaderConforms file h → signals_of (fixed_part file) ≡ length h.signals
signals-said file h c = ap count_of (whole_number_of-spelled (fixed_field (fixed_part file) fixed.Signals) (pos (length h.signals)) (whole_in (fixed_part file) 252 4 (pos (length h.signals)) (omega arith) (head_in_parts file h c.head).count))

-- a fixed part and columns that were read, of which the header is in order, are whole
pub whole-read : (front columns : List ℕ) (h : Head) (n : ℕ) → length front ≤ 256 → length columns ≤ 256 * n → (length front < 256 → n ≡ 0) → (256 ≤ length front → n ≡ signals_of front)
    → HeaderConforms (front ++ columns) h → IsWhole front columns h
whole-read front columns h n low few none some c =
    let whole = c.whole in
    let long = length-append front columns in
    let full : length front ≡ 256 = elim (sides (length front)) [
      | inl short ↦ absurd (let z = none short in omega (arith, whole, long, few, z))
      | inr there ↦ omega arith
    ] in
    let is : fixed_part (front ++ columns) ≡ front = front-of front columns full in
    let count : n ≡ length h.signals = some (omega arith) ∙ ap signals_of (sym is) ∙ signals-said (front ++ columns) h c in
    record { front_long = full; columns_long = omega (arith, whole, long, few, count, full) }
  where
    sides : (n : ℕ) → (n < 256) ⊎ (256 ≤ n)
    sides n = cases_lt n 256

    front-of : (front columns : List ℕ) → length front ≡ 256 → take 256 (front ++ columns) ≡ front
    front-of front columns long = take_at front columns 256 long

-- what was read of a file whose header passes
pub head-file : (file left front columns : List ℕ) (h : Head) (n : ℕ) → (256 ≤ length front → n ≡ signals_of front) → length front ≡ 256
    → front ≡ take 256 file → columns ≡ take (256 * n) (drop 256 file) → left ≡ drop (256 * n) (drop 256 file)
    → header_fault (front ++ columns) ≡ None → h ≡ head_of (front ++ columns) → HeaderConforms (front ++ columns) h → IsHeadFile file left front columns h
head-file file left front columns h n some long first second behind passed is c =
    let count : n ≡ signals_of (fixed_part file) = some (omega (arith, long)) ∙ ap signals_of first in
    let enough : IsCount file n = inl (omega arith) in
    let whole : front ++ columns ≡ cut file n = ap (λ xs. xs ++ columns) first ∙ ap (λ xs. take 256 file ++ xs) second in
    let faultless : header_fault file ≡ None = sym (cut-fault file n enough) ∙ ap header_fault (sym whole) ∙ passed in
    let head : h ≡ head_of file = is ∙ ap head_of whole ∙ cut-head file n enough in
    let conforms : HeaderConforms file h = subst (λ (k : Head). HeaderConforms file k) (sym head) (passing-conforms file faultless) in
    let signals : n ≡ length h.signals = count ∙ signals-said file h conforms in
    record {
      header = head;
      faultless = faultless;
      conforms = conforms;
      front_is = first;
      columns_are = second ∙ ap (λ k. columns_part k file) signals;
      rest = behind ∙ drop-drop (256 * n) 256 file ∙ ap (λ k. drop k file) (let e : 256 + 256 * n ≡ 256 * (length h.signals + 1) = omega (arith, signals) in e);
    }

-- the fault of what was read is that of the file
pub fault-read : (file front columns : List ℕ) (n : ℕ) (f : Fault) → (length front < 256 → n ≡ 0) → (256 ≤ length front → n ≡ signals_of front)
    → front ≡ take 256 file → columns ≡ take (256 * n) (drop 256 file) → header_fault (front ++ columns) ≡ Some f → header_fault file ≡ Some f
fault-read file front columns n f none some first second found =
    let long : length front ≡ min 256 (length file) = ap length first ∙ length-take 256 file in
    let enough : IsCount file n = elim (cases_lt (length front) 256) [
      | inl short ↦ inr (omega (arith, long, short))
      | inr there ↦ inl (let e : n ≡ signals_of (fixed_part file) = some there ∙ ap signals_of first in omega arith)
    ] in
    sym (cut-fault file n enough) ∙ ap header_fault (sym (ap (λ xs. xs ++ columns) first ∙ ap (λ xs. take 256 file ++ xs) second)) ∙ found

-- what is said of each way to stop may be weakened
pub stops-weaker : (P Q : Fault → Type 0) (A B C D : Type 0) → ((f : Fault) → P f → Q f) → (A → B) → (C → D) → (e : Stop) → Stops P A C e → Stops Q B D e
stops-weaker P Q A B C D faults failed sound stops.OutOfMemory h = sound h
stops-weaker P Q A B C D faults failed sound stops.ReadFailed h = failed h
stops-weaker P Q A B C D faults failed sound (stops.Fault f) h = (faults f h.0, sound h.1)
