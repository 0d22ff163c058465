-- The stages of the tests of the fixed part.
use Rattle.std.proofs.Common.{◌≡◌, ℕ, ◌+◌, ◌≤◌, ◌<◌, List, [], ◌∷◌, ◌++◌, length, get_or, drop, Some, None, refl, sym, ap, ◌∙◌, subst, add-one, nat_le}
use Rattle.std.proofs.Math.Seq.{drop-cons}
use Rattle.edf_fields.specs.declared.faults.fault.Fault.{Fault}
use Rattle.edf_fields.specs.declared.faults.fault.Place.TheVariants.{AtField}
use Rattle.edf_fields.specs.declared.faults.fault.Cause.TheVariants.{Truncated}
use Rattle.edf_fields.specs.declared.fields.layout.FixedField.{FixedField}
use Rattle.edf_fields.specs.declared.fields.layout.FixedField.TheVariants as fixed
use Rattle.edf_fields.specs.fields.LayoutReading.{fixed_fields, fixed_from, fixed_bytes}
use Rattle.edf_header.specs.Faults.{fault, truncated, fixed_missing, start_faults, extent_faults, fixed_fault}
use Rattle.edf_header.proofs.in_columns.ColumnFacts.{there, not_there}
use Rattle.edf_header.proofs.PassedFacts.{fault_unless-passed}
use Rattle.edf_fields.specs.Tests.{first}
use Rattle.edf_fields.proofs.ForCallers.{first-passed, first-found, first-none, first-cons, le_decided}

fields_at : (fields : List FixedField) (i : ℕ) → i < length fields → drop i fields ≡ get_or fields i fixed.Version ∷ drop (i + 1) fields
fields_at fields i h = drop-cons fields i fixed.Version h ∙ ap (λ k. get_or fields i fixed.Version ∷ drop k fields) (sym (add-one i))

-- the field at place i is the first of which a byte is missing
pub missing-here : (fields : List FixedField) (i a n len : ℕ) → i < length fields
    → first (fixed_missing fields len) ≡ first (fixed_missing (drop i fields) len)
    → a ≡ fixed_from (get_or fields i fixed.Version) → n ≡ fixed_bytes (get_or fields i fixed.Version) → len < a + n
    → first (fixed_missing fields len) ≡ fault (AtField (get_or fields i fixed.Version)) Truncated
missing-here fields i a n len lt tests ea en short =
    let field = get_or fields i fixed.Version in
    let high : len < fixed_from field + fixed_bytes field = subst (λ (x : ℕ). len < x + fixed_bytes field) ea (subst (λ (y : ℕ). len < a + y) en short) in
    tests ∙ ap (λ fs. first (fixed_missing fs len)) (fields_at fields i lt)
    ∙ first-found (truncated (AtField field) (fixed_from field + fixed_bytes field) len ∷ []) (fixed_missing (drop (i + 1) fields) len) _
    (ap (λ t. first (t ∷ [])) (not_there (AtField field) (fixed_from field + fixed_bytes field) len high))

-- the field at place i is there
pub there-next : (fields : List FixedField) (i a n len : ℕ) → i < length fields
    → first (fixed_missing fields len) ≡ first (fixed_missing (drop i fields) len)
    → a ≡ fixed_from (get_or fields i fixed.Version) → n ≡ fixed_bytes (get_or fields i fixed.Version) → a + n ≤ len
    → first (fixed_missing fields len) ≡ first (fixed_missing (drop (i + 1) fields) len)
there-next fields i a n len lt tests ea en whole =
    let field = get_or fields i fixed.Version in
    let high : fixed_from field + fixed_bytes field ≤ len = subst (λ (x : ℕ). x + fixed_bytes field ≤ len) ea (subst (λ (y : ℕ). a + y ≤ len) en whole) in
    tests ∙ ap (λ fs. first (fixed_missing fs len)) (fields_at fields i lt)
    ∙ first-passed (truncated (AtField field) (fixed_from field + fixed_bytes field) len ∷ []) (fixed_missing (drop (i + 1) fields) len)
    (ap (λ t. first (t ∷ [])) (there (AtField field) (fixed_from field + fixed_bytes field) len high))

-- where no byte of the fixed part is missing, it has 256
missing-two : (fields more : List FixedField) (len : ℕ) → fixed_missing (fields ++ more) len ≡ fixed_missing fields len ++ fixed_missing more len
missing-two [] more len = refl
missing-two (field ∷ fields) more len = ap (λ tests. truncated (AtField field) (fixed_from field + fixed_bytes field) len ∷ tests) (missing-two fields more len)

last-there : (fields : List FixedField) (len : ℕ) → first (fixed_missing (fields ++ fixed.Signals ∷ []) len) ≡ None → 256 ≤ len
unfolding truncated
last-there fields len h =
    let parts = first-none (fixed_missing fields len) (fixed_missing (fixed.Signals ∷ []) len) (ap first (sym (missing-two fields (fixed.Signals ∷ []) len)) ∙ h) in
    (le_decided 256 len).0 (fault_unless-passed (nat_le 256 len) (AtField fixed.Signals) Truncated (first-cons (truncated (AtField fixed.Signals) 256 len) [] parts.1).0)

pub part_whole : (len : ℕ) → first (fixed_missing fixed_fields len) ≡ None → 256 ≤ len
part_whole len h =
    last-there (fixed.Version ∷ fixed.Patient ∷ fixed.Recording ∷ fixed.Startdate ∷ fixed.Starttime ∷ fixed.HeaderBytes ∷ fixed.Reserved ∷ fixed.Records ∷ fixed.Duration ∷ []) len h

pub missing_found : (front : List ℕ) (f : Fault) → first (fixed_missing fixed_fields (length front)) ≡ Some f → fixed_fault front ≡ Some f
unfolding fixed_fault
missing_found front f h = first-found (fixed_missing fixed_fields (length front)) (start_faults front ++ extent_faults front) f h

pub start_found : (front : List ℕ) (f : Fault) → first (fixed_missing fixed_fields (length front)) ≡ None → first (start_faults front) ≡ Some f → fixed_fault front ≡ Some f
unfolding fixed_fault
start_found front f there h =
    first-passed (fixed_missing fixed_fields (length front)) (start_faults front ++ extent_faults front) there
    ∙ first-found (start_faults front) (extent_faults front) f h

pub extent_found : (front : List ℕ) (f : Fault) → first (fixed_missing fixed_fields (length front)) ≡ None → first (start_faults front) ≡ None → first (extent_faults front) ≡ Some f → fixed_fault front ≡ Some f
unfolding fixed_fault
extent_found front f there start h =
    first-passed (fixed_missing fixed_fields (length front)) (start_faults front ++ extent_faults front) there
    ∙ first-passed (start_faults front) (extent_faults front) start ∙ h

pub fixed_passed : (front : List ℕ) → first (fixed_missing fixed_fields (length front)) ≡ None → first (start_faults front) ≡ None → first (extent_faults front) ≡ None → fixed_fault front ≡ None
unfolding fixed_fault
fixed_passed front there start h =
    first-passed (fixed_missing fixed_fields (length front)) (start_faults front ++ extent_faults front) there
    ∙ first-passed (start_faults front) (extent_faults front) start ∙ h
