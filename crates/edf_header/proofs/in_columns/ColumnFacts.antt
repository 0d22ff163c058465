-- Which byte of the columns is missing first.
use Rattle.std.proofs.Common.{◌≡◌, ℕ, zero, suc, ◌+◌, ◌-◌, ◌*◌, ◌/◌, ◌<◌, ◌≤◌, List, [], ◌∷◌, None, refl, sym, ap, ◌∙◌, arith, inl, inr, length, get_or, drop, subst, add-one}
use Rattle.std.proofs.lemmas.Bool.{cases_lt}
use Rattle.std.proofs.lemmas.Bool.Decides.{nat_tests}
use Rattle.std.proofs.Math.Nat.{div-eq_of_lt-le}
use Rattle.std.proofs.Math.Seq.{drop-cons}
use Rattle.edf_fields.specs.declared.faults.fault.Place.{Place}
use Rattle.edf_fields.specs.declared.faults.fault.Place.TheVariants.{AtSignal}
use Rattle.edf_fields.specs.declared.faults.fault.Cause.TheVariants.{Truncated}
use Rattle.edf_fields.specs.declared.fields.layout.SignalField.{SignalField}
use Rattle.edf_fields.specs.declared.fields.layout.SignalField.TheVariants as signal
use Rattle.edf_fields.specs.fields.LayoutReading.{columns, next_before, AreAdjacent, column_before, column_width}
use Rattle.edf_header.specs.Faults.{fault, truncated, column_missing, columns_missing}
use Rattle.edf_fields.specs.Tests.{first}
use Rattle.edf_fields.proofs.ForCallers.{first-passed, first-found}

pub there : (place : Place) (end len : ℕ) → end ≤ len → truncated place end len ≡ None
unfolding truncated
there place end len h = grind (arith, nat_tests)

pub not_there : (place : Place) (end len : ℕ) → len < end → truncated place end len ≡ fault place Truncated
unfolding truncated
not_there place end len h = grind (arith, nat_tests)

-- all of a column is there, of the m signals from signal s on
pub column-whole : (field : SignalField) (n s m len : ℕ) → column_before field * n + column_width field * (s + m) ≤ len
    → first (column_missing field n s m len) ≡ None
column-whole field n s zero len h = refl
column-whole field n s (suc m) len h =
    let here : column_before field * n + column_width field * (s + 1) ≤ len = omega arith in
    let rest : column_before field * n + column_width field * (s + 1 + m) ≤ len = omega arith in
    first-passed (truncated (AtSignal s field) (column_before field * n + column_width field * (s + 1)) len ∷ [])
    (column_missing field n (s + 1) m len)
    (ap (λ t. first (t ∷ [])) (there (AtSignal s field) (column_before field * n + column_width field * (s + 1)) len here))
    ∙ column-whole field n (s + 1) m len rest

-- the first signal of which a byte is missing
pub column-broken : (field : SignalField) (n s m len : ℕ) → column_before field * n + column_width field * s ≤ len
    → len < column_before field * n + column_width field * (s + m)
    → first (column_missing field n s m len) ≡ fault (AtSignal ((len - (column_before field * n)) / column_width field) field) Truncated
column-broken field n s zero len low high = absurd (omega arith)
column-broken field n s (suc m) len low high =
    elim (cases_lt len (column_before field * n + column_width field * (s + 1))) [
      | inl lt ↦
          let q : (len - (column_before field * n)) / column_width field ≡ s =
          div-eq_of_lt-le (column_width field) (omega arith) (omega arith) in
          first-found (truncated (AtSignal s field) (column_before field * n + column_width field * (s + 1)) len ∷ [])
          (column_missing field n (s + 1) m len) _
          (ap (λ t. first (t ∷ [])) (not_there (AtSignal s field) (column_before field * n + column_width field * (s + 1)) len lt)
          ∙ ap (λ k. fault (AtSignal k field) Truncated) (sym q))
      | inr le ↦
          first-passed (truncated (AtSignal s field) (column_before field * n + column_width field * (s + 1)) len ∷ [])
          (column_missing field n (s + 1) m len)
          (ap (λ t. first (t ∷ [])) (there (AtSignal s field) (column_before field * n + column_width field * (s + 1)) len le))
          ∙ column-broken field n (s + 1) m len le (omega arith)
    ]

-- the columns of a header stand one behind the other
pub columns-adjacent : AreAdjacent columns
unfolding columns
columns-adjacent = (refl, (refl, (refl, (refl, (refl, (refl, (refl, (refl, (refl, (refl, tt))))))))))

pub columns-passed : (field : SignalField) (fields : List SignalField) (n len : ℕ)
    → column_before field * n + column_width field * n ≤ len
    → first (columns_missing (field ∷ fields) n len) ≡ first (columns_missing fields n len)
columns-passed field fields n len h =
    first-passed (column_missing field n 0 n len) (columns_missing fields n len) (column-whole field n 0 n len (omega arith))

pub columns-broken : (field : SignalField) (fields : List SignalField) (n len : ℕ)
    → column_before field * n ≤ len → len < column_before field * n + column_width field * n
    → first (columns_missing (field ∷ fields) n len) ≡ fault (AtSignal ((len - (column_before field * n)) / column_width field) field) Truncated
columns-broken field fields n len low high =
    first-found (column_missing field n 0 n len) (columns_missing fields n len) _ (column-broken field n 0 n len (omega arith) (omega arith))

pub columns-begin : next_before columns ≡ 0
unfolding columns
columns-begin = refl

fields_at : (fields : List SignalField) (i : ℕ) → i < length fields → drop i fields ≡ get_or fields i signal.Label ∷ drop (i + 1) fields
fields_at fields i h = drop-cons fields i signal.Label h ∙ ap (λ k. get_or fields i signal.Label ∷ drop k fields) (sym (add-one i))

-- the column at place i is the one of which a byte is missing
pub missing-at : (fields : List SignalField) (i n b w m len : ℕ) → i < length fields
    → first (columns_missing fields n len) ≡ first (columns_missing (drop i fields) n len)
    → next_before (drop i fields) * n ≤ len
    → b ≡ column_before (get_or fields i signal.Label) → w ≡ column_width (get_or fields i signal.Label) → m ≡ n
    → len < b * m + w * m
    → first (columns_missing fields n len) ≡ fault (AtSignal ((len - (b * m)) / w) (get_or fields i signal.Label)) Truncated
missing-at fields i n b w m len lt tests start eb ew em short =
    let field = get_or fields i signal.Label in
    let cut = fields_at fields i lt in
    let low : column_before field * n ≤ len = let P : List SignalField → Type 0 = λ fs. next_before fs * n ≤ len in subst P cut start in
    let high : len < column_before field * n + column_width field * n =
    let Q : ℕ → ℕ → ℕ → Type 0 = λ x y z. len < x * z + y * z in
    subst (λ (x : ℕ). Q x (column_width field) n) eb (subst (λ (y : ℕ). Q b y n) ew (subst (λ (z : ℕ). Q b w z) em short)) in
    tests ∙ ap (λ fs. first (columns_missing fs n len)) cut ∙ columns-broken field (drop (i + 1) fields) n len low high
    ∙ ap (λ x. fault (AtSignal ((len - (x * n)) / column_width field) field) Truncated) (sym eb)
    ∙ ap (λ y. fault (AtSignal ((len - (b * n)) / y) field) Truncated) (sym ew)
    ∙ ap (λ z. fault (AtSignal ((len - (b * z)) / w) field) Truncated) (sym em)

-- what holds before the column at place i holds behind it, where it is whole
pub record Stands (fields : List SignalField) (i n len : ℕ) : Type 0 where
  pub start : next_before (drop i fields) * n ≤ len
  pub adjacent : AreAdjacent (drop i fields)
  pub tests : first (columns_missing fields n len) ≡ first (columns_missing (drop i fields) n len)

pub stands-next : (fields : List SignalField) (i n b w m len : ℕ) → i < length fields → Stands fields i n len
    → b ≡ column_before (get_or fields i signal.Label) → w ≡ column_width (get_or fields i signal.Label) → m ≡ n
    → b * m + w * m ≤ len → Stands fields (i + 1) n len
stands-next fields i n b w m len lt s eb ew em whole =
    let field = get_or fields i signal.Label in
    let cut = fields_at fields i lt in
    let adjacent : AreAdjacent (field ∷ drop (i + 1) fields) = subst AreAdjacent cut s.adjacent in
    let high : column_before field * n + column_width field * n ≤ len =
    let Q : ℕ → ℕ → ℕ → Type 0 = λ x y z. x * z + y * z ≤ len in
    subst (λ (x : ℕ). Q x (column_width field) n) eb (subst (λ (y : ℕ). Q b y n) ew (subst (λ (z : ℕ). Q b w z) em whole)) in
    record {
      start = let P : ℕ → Type 0 = λ x. x * n ≤ len in subst P adjacent.0 (omega arith);
      adjacent = adjacent.1;
      tests = s.tests ∙ ap (λ fs. first (columns_missing fs n len)) cut ∙ columns-passed field (drop (i + 1) fields) n len high;
    }
