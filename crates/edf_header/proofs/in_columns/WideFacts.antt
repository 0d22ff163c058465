-- Columns one behind the other, and the fields in them.
use Rattle.std.proofs.Common.{◌≡◌, ℕ, zero, suc, ◌+◌, ◌-◌, ◌*◌, ◌<◌, ◌≤◌, List, [], ◌∷◌, ◌++◌, length, take, drop, get_or, None, refl, sym, ap, ◌∙◌, subst, arith, append_assoc}
use Rattle.std.proofs.Math.Seq.{drop-append_seam}
use Rattle.std.proofs.lemmas.List.{length-append, drop-drop, length-take}
use Rattle.edf_fields.specs.Parts.{part}
use Rattle.edf_fields.specs.Tests.{first}
use Rattle.edf_fields.proofs.ForCallers.{first-passed, part-append}
use Rattle.edf_fields.specs.declared.fields.layout.SignalField.{SignalField}
use Rattle.edf_fields.specs.declared.fields.layout.SignalField.TheVariants as signal
use Rattle.edf_fields.specs.fields.LayoutReading.{columns, next_before, AreAdjacent, column_before, column_width, column_field}
use Rattle.edf_header.specs.Faults.{column_missing, columns_missing}
use Rattle.edf_header.specs.Narrow.{WideColumn, all_bytes, AreColumns}
use Rattle.edf_header.proofs.in_columns.ColumnFacts.{column-whole, columns-adjacent, columns-begin}

pub scale : (w a b : ℕ) → a ≤ b → w * a ≤ w * b
scale zero a b h = omega arith
scale (suc w) a b h = let rest = scale w a b h in omega (arith, rest, h)

-- columns that stand one behind the other end with the header
pub next-within : (fields : List SignalField) → AreAdjacent fields → next_before fields ≤ 256
next-within [] h = omega arith
next-within (field ∷ fields) h = let rest = next-within fields h.1 in omega (arith, rest, h.0)

-- each of them begins where the first one does, or later
pub begins-behind : (fields : List SignalField) (i : ℕ) → AreAdjacent fields → i < length fields → next_before fields ≤ column_before (get_or fields i signal.Label)
begins-behind [] i h lt = absurd (omega (arith, lt))
begins-behind (field ∷ fields) zero h lt = omega arith
begins-behind (field ∷ fields) (suc i) h lt = let rest = begins-behind fields i h.1 (omega (arith, lt)) in omega (arith, rest, h.0)

-- where there are 256 bytes for each signal, none is missing
pub columns-whole : (fields : List SignalField) (n len : ℕ) → AreAdjacent fields → 256 * n ≤ len → first (columns_missing fields n len) ≡ None
columns-whole [] n len h enough = refl
columns-whole (field ∷ fields) n len h enough =
    let within = next-within fields h.1 in
    let end : column_before field + column_width field ≤ 256 = omega (arith, within, h.0) in
    let more : n * (column_before field + column_width field) ≤ n * 256 = scale n (column_before field + column_width field) 256 end in
    first-passed (column_missing field n 0 n len) (columns_missing fields n len) (column-whole field n 0 n len (omega (arith, more, enough)))
    ∙ columns-whole fields n len h.1 enough

pub length-columns : (n : ℕ) (fields : List SignalField) (cs : List WideColumn) → AreColumns n fields cs → length cs ≡ length fields
length-columns n [] [] h = refl
length-columns n [] (c ∷ cs) h = absurd h
length-columns n (f ∷ fs) [] h = absurd h
length-columns n (f ∷ fs) (c ∷ cs) h = ap suc (length-columns n fs cs h.1)

-- one column more
pub columns-more : (n : ℕ) (fields : List SignalField) (field : SignalField) (cs : List WideColumn) (c : WideColumn)
    → AreColumns n fields cs → c.width ≡ column_width field → c.count ≡ n → length c.bytes ≡ column_width field * n → AreColumns n (fields ++ field ∷ []) (cs ++ c ∷ [])
columns-more n [] field [] c h width count long = ((width, count, long), tt)
columns-more n [] field (d ∷ cs) c h width count long = absurd h
columns-more n (f ∷ fs) field [] c h width count long = absurd h
columns-more n (f ∷ fs) field (d ∷ cs) c h width count long = (h.0, columns-more n fs field cs c h.1 width count long)

pub all_bytes-more : (cs : List WideColumn) (c : WideColumn) → all_bytes (cs ++ c ∷ []) ≡ all_bytes cs ++ c.bytes
all_bytes-more [] c = append-nil c.bytes
  where
    append-nil : (xs : List ℕ) → xs ++ [] ≡ xs
    append-nil [] = refl
    append-nil (x ∷ xs) = ap (λ r. x ∷ r) (append-nil xs)
all_bytes-more (d ∷ cs) c = ap (λ r. d.bytes ++ r) (all_bytes-more cs c) ∙ sym (append_assoc d.bytes (all_bytes cs) c.bytes)

-- the columns have 256 bytes for each signal
pub length-all : (n : ℕ) (fields : List SignalField) (cs : List WideColumn) → AreAdjacent fields → AreColumns n fields cs → next_before fields * n + length (all_bytes cs) ≡ 256 * n
length-all n [] [] adjacent h = omega arith
length-all n [] (c ∷ cs) adjacent h = absurd h
length-all n (f ∷ fs) [] adjacent h = absurd h
length-all n (f ∷ fs) (c ∷ cs) adjacent h =
    let rest = length-all n fs cs adjacent.1 h.1 in
    let both = length-append c.bytes (all_bytes cs) in
    let here : (column_before f + column_width f) * n ≡ next_before fs * n = ap (λ k. k * n) adjacent.0 in
    omega (arith, rest, both, here, h.0.2)

-- what the column at place i is said to have
pub column-said : (n : ℕ) (fields : List SignalField) (cs : List WideColumn) (i : ℕ) (d : WideColumn) → AreColumns n fields cs → i < length fields
    → ((get_or cs i d).width ≡ column_width (get_or fields i signal.Label)) × ((get_or cs i d).count ≡ n)
column-said n [] cs i d h lt = absurd (omega (arith, lt))
column-said n (f ∷ fs) [] i d h lt = absurd h
column-said n (f ∷ fs) (c ∷ cs) zero d h lt = (h.0.0, h.0.1)
column-said n (f ∷ fs) (c ∷ cs) (suc i) d h lt = column-said n fs cs i d h.1 (omega (arith, lt))

-- a field of the column at place i is that of the columns one behind the other
pub field-at : (n : ℕ) (fields : List SignalField) (cs : List WideColumn) (i k s : ℕ) (d : WideColumn) → AreAdjacent fields → AreColumns n fields cs → i < length fields → s < n
    → column_before (get_or fields i signal.Label) ≡ next_before fields + k
    → part (all_bytes cs) (k * n + column_width (get_or fields i signal.Label) * s) (column_width (get_or fields i signal.Label))
    ≡ part (get_or cs i d).bytes (column_width (get_or fields i signal.Label) * s) (column_width (get_or fields i signal.Label))
field-at n [] cs i k s d adjacent h lt within at = absurd (omega (arith, lt))
field-at n (f ∷ fs) [] i k s d adjacent h lt within at = absurd h
field-at n (f ∷ fs) (c ∷ cs) zero k s d adjacent h lt within at =
    let none : k ≡ 0 = omega (arith, at) in
    let start : k * n + column_width f * s ≡ column_width f * s = ap (λ j. j * n + column_width f * s) none ∙ omega arith in
    let enough : column_width f * (s + 1) ≤ column_width f * n = scale (column_width f) (s + 1) n (omega (arith, within)) in
    ap (λ j. part (c.bytes ++ all_bytes cs) j (column_width f)) start
    ∙ part-append c.bytes (all_bytes cs) (column_width f * s) (column_width f) (let long = h.0.2 in omega (arith, enough, long))
field-at n (f ∷ fs) (c ∷ cs) (suc i) k s d adjacent h lt within at =
    let g : SignalField = get_or fs i signal.Label in
    let behind = begins-behind fs i adjacent.1 (omega (arith, lt)) in
    let j : ℕ = k - column_width f in
    let kj : k ≡ column_width f + j = omega (arith, at, behind, adjacent.0) in
    let there : column_before g ≡ next_before fs + j = omega (arith, at, kj, adjacent.0) in
    let start : k * n + column_width g * s ≡ length c.bytes + (j * n + column_width g * s) =
    ap (λ m. m * n + column_width g * s) kj ∙ (let long = h.0.2 in omega (arith, long)) in
    ap (λ m. part (c.bytes ++ all_bytes cs) m (column_width g)) start
    ∙ ap (take (column_width g)) (sym (drop-drop (j * n + column_width g * s) (length c.bytes) (c.bytes ++ all_bytes cs)) ∙ ap (drop (j * n + column_width g * s)) (drop-append_seam c.bytes (all_bytes cs)))
    ∙ field-at n fs cs i j s d adjacent.1 h.1 (omega (arith, lt)) within there

-- a field of a signal, in its column
pub signal_field-at : (n : ℕ) (cs : List WideColumn) (i s : ℕ) (d : WideColumn) (field : SignalField) → AreColumns n columns cs → i < length columns → get_or columns i signal.Label ≡ field → s < n
    → column_field (all_bytes cs) n s field ≡ part (get_or cs i d).bytes ((get_or cs i d).width * s) (get_or cs i d).width
signal_field-at n cs i s d field h lt e within =
    let w : ℕ = column_width field in
    let width : (get_or cs i d).width ≡ w = (column-said n columns cs i d h lt).0 ∙ ap column_width e in
    let P : SignalField → Type 0 = λ g. part (all_bytes cs) (column_before g * n + column_width g * s) (column_width g) ≡ part (get_or cs i d).bytes (column_width g * s) (column_width g) in
    let begins : next_before columns ≡ 0 = columns-begin in
    let start : column_before (get_or columns i signal.Label) ≡ next_before columns + column_before (get_or columns i signal.Label) = omega (arith, begins) in
    subst P e (field-at n columns cs i (column_before (get_or columns i signal.Label)) s d columns-adjacent h lt within start)
    ∙ ap (λ k. part (get_or cs i d).bytes (k * s) k) (sym width)

-- a field has no more bytes than its column is wide
pub field_short : (bytes : List ℕ) (n s : ℕ) (field : SignalField) → length (column_field bytes n s field) ≤ column_width field
field_short bytes n s field =
    let long = length-take (column_width field) (drop (column_before field * n + column_width field * s) bytes) in
    omega (arith, long)
