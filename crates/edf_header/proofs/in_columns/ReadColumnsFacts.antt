-- Columns read one behind the other.
use Rattle.std.proofs.Common.{◌≡◌, ℕ, ◌+◌, ◌-◌, ◌*◌, ◌/◌, ◌<◌, ◌≤◌, min, List, [], ◌∷◌, ◌++◌, length, take, drop, get_or, refl, sym, ap, ◌∙◌, subst, arith, add-one}
use Rattle.std.proofs.Math.Seq.{drop-cons, take-add, take-length, drop-length}
use Rattle.std.proofs.lemmas.List.{drop-drop, length-take, length-drop, take_more}
use Rattle.edf_fields.specs.Tests.{first}
use Rattle.edf_fields.specs.declared.faults.fault.Place.TheVariants.{AtSignal}
use Rattle.edf_fields.specs.declared.faults.fault.Cause.TheVariants.{Truncated}
use Rattle.edf_fields.specs.declared.fields.layout.SignalField.{SignalField}
use Rattle.edf_fields.specs.declared.fields.layout.SignalField.TheVariants as signal
use Rattle.edf_fields.specs.fields.LayoutReading.{next_before, AreAdjacent, column_before, column_width}
use Rattle.edf_header.specs.Faults.{fault, columns_missing}
use Rattle.edf_header.specs.Narrow.{WideColumn, all_bytes, AreColumns}
use Rattle.edf_header.proofs.in_columns.ColumnFacts.{Stands, stands-next, missing-at}
use Rattle.edf_header.proofs.in_columns.WideFacts.{scale, next-within, columns-more, all_bytes-more}

-- of these fields the first i columns were read of what was left at the beginning, and this is left now
pub record HasRead (Honest : Type 0) (fields : List SignalField) (i n : ℕ) (begin now : List ℕ) (found : List WideColumn) : Type 0 where
  pub adjacent : AreAdjacent (drop i fields)
  pub shape : AreColumns n (take i fields) found
  pub left : Honest → now ≡ drop (next_before (drop i fields) * n) begin
  pub front : Honest → all_bytes found ≡ take (next_before (drop i fields) * n) begin
  pub stands : Honest → Stands fields i n (length (take (256 * n) begin))

pub read-begins : (Honest : Type 0) (fields : List SignalField) (n : ℕ) (begin : List ℕ) → AreAdjacent fields → next_before fields ≡ 0 → HasRead Honest fields 0 n begin begin []
read-begins Honest fields n begin adjacent start =
    let none : next_before fields * n ≡ 0 = ap (λ k. k * n) start ∙ omega arith in
    record {
      adjacent = adjacent;
      shape = tt;
      left = λ _. ap (λ k. drop k begin) (sym none);
      front = λ _. ap (λ k. take k begin) (sym none);
      stands = λ _. record { start = omega (arith, none); adjacent = adjacent; tests = refl };
    }

-- the column at place i, and those behind it
cut : (fields : List SignalField) (i : ℕ) → i < length fields → drop i fields ≡ get_or fields i signal.Label ∷ drop (i + 1) fields
cut fields i h = drop-cons fields i signal.Label h ∙ ap (λ k. get_or fields i signal.Label ∷ drop k fields) (sym (add-one i))

-- where the column at place i begins, and where it ends
begins : (fields : List SignalField) (i : ℕ) → i < length fields → next_before (drop i fields) ≡ column_before (get_or fields i signal.Label)
begins fields i lt = ap next_before (cut fields i lt)

ends : (fields : List SignalField) (i : ℕ) → i < length fields → AreAdjacent (drop i fields) → column_before (get_or fields i signal.Label) + column_width (get_or fields i signal.Label) ≡ next_before (drop (i + 1) fields)
ends fields i lt h = (let g : AreAdjacent (get_or fields i signal.Label ∷ drop (i + 1) fields) = subst AreAdjacent (cut fields i lt) h in g).0

behind : (fields : List SignalField) (i : ℕ) → i < length fields → AreAdjacent (drop i fields) → AreAdjacent (drop (i + 1) fields)
behind fields i lt h = (let g : AreAdjacent (get_or fields i signal.Label ∷ drop (i + 1) fields) = subst AreAdjacent (cut fields i lt) h in g).1

-- it ends within the header
end-within : (fields : List SignalField) (i n : ℕ) → i < length fields → AreAdjacent (drop i fields)
    → column_before (get_or fields i signal.Label) * n + column_width (get_or fields i signal.Label) * n ≤ 256 * n
end-within fields i n lt h =
    let within = next-within (drop (i + 1) fields) (behind fields i lt h) in
    let end = ends fields i lt h in
    let more : n * (column_before (get_or fields i signal.Label) + column_width (get_or fields i signal.Label)) ≤ n * 256 =
    scale n (column_before (get_or fields i signal.Label) + column_width (get_or fields i signal.Label)) 256 (omega (arith, within, end)) in
    omega (arith, more)

pub read-next : (Honest : Type 0) (fields : List SignalField) (i n : ℕ) (begin now rest bytes : List ℕ) (found : List WideColumn) (column : WideColumn) (b w m : ℕ) → i < length fields
    → HasRead Honest fields i n begin now found
    → b ≡ column_before (get_or fields i signal.Label) → w ≡ column_width (get_or fields i signal.Label) → m ≡ n
    → (Honest → bytes ≡ take (w * m) now) → (Honest → rest ≡ drop (w * m) now) → w * m ≤ length bytes → length bytes ≤ w * m
    → column ≡ record { width = w; count = m; bytes = bytes }
    → HasRead Honest fields (i + 1) n begin rest (found ++ column ∷ [])
read-next Honest fields i n begin now rest bytes found column b w m lt h eb ew em taken dropped whole within made =
    let field = get_or fields i signal.Label in
    let B : ℕ = column_before field in
    let W : ℕ = column_width field in
    let start = begins fields i lt in
    let end = ends fields i lt h.adjacent in
    let size : w * m ≡ W * n = ap (λ k. k * m) ew ∙ ap (λ k. W * k) em in
    let both : next_before (drop (i + 1) fields) * n ≡ B * n + W * n = ap (λ k. k * n) (sym end) ∙ omega arith in
    let here : Honest → now ≡ drop (B * n) begin = λ o. h.left o ∙ ap (λ k. drop (k * n) begin) start in
    let long : length column.bytes ≡ W * n = ap (λ c. length c.bytes) made ∙ omega (arith, whole, within, size) in
    let more : take (i + 1) fields ≡ take i fields ++ field ∷ [] = take_more fields i signal.Label lt in
    record {
      adjacent = behind fields i lt h.adjacent;
      shape = subst (λ (fs : List SignalField). AreColumns n fs (found ++ column ∷ [])) (sym more)
          (columns-more n (take i fields) field found column h.shape (ap (λ c. c.width) made ∙ ew) (ap (λ c. c.count) made ∙ em) long);
      left = λ o.
          dropped o ∙ ap (λ k. drop k now) size ∙ ap (drop (W * n)) (here o) ∙ drop-drop (W * n) (B * n) begin
          ∙ ap (λ k. drop k begin) (sym both);
      front = λ o.
          all_bytes-more found column
          ∙ ap (λ c. all_bytes found ++ c.bytes) made
          ∙ ap (λ xs. all_bytes found ++ xs) (taken o ∙ ap (λ k. take k now) size ∙ ap (take (W * n)) (here o))
          ∙ ap (λ xs. xs ++ take (W * n) (drop (B * n) begin)) (h.front o ∙ ap (λ k. take (k * n) begin) start)
          ∙ sym (take-add (B * n) (W * n) begin)
          ∙ ap (λ k. take k begin) (sym both);
      stands = λ o.
          let all = length-take (256 * n) begin in
          let low : next_before (drop i fields) * n ≤ length (take (256 * n) begin) = (h.stands o).start in
          let at : next_before (drop i fields) * n ≡ B * n = ap (λ k. k * n) start in
          let some : length bytes ≡ min (w * m) (length now) = ap length (taken o) ∙ length-take (w * m) now in
          let rest-long : length now ≡ length begin - B * n = ap length (here o) ∙ length-drop (B * n) begin in
          let inside = end-within fields i n lt h.adjacent in
          let there : b * m + w * m ≡ B * n + W * n = ap (λ k. k * m + w * m) eb ∙ ap (λ k. B * m + k) size ∙ ap (λ k. B * k + W * n) em in
          stands-next fields i n b w m (length (take (256 * n) begin)) lt (h.stands o) eb ew em (omega (arith, all, low, at, some, rest-long, inside, there, whole, size));
    }

pub read-short : (Honest : Type 0) (fields : List SignalField) (i n : ℕ) (begin now bytes : List ℕ) (found : List WideColumn) (b w m place : ℕ) → i < length fields
    → HasRead Honest fields i n begin now found
    → b ≡ column_before (get_or fields i signal.Label) → w ≡ column_width (get_or fields i signal.Label) → m ≡ n
    → (Honest → bytes ≡ take (w * m) now) → length bytes < w * m → place ≡ length bytes / w
    → Honest → first (columns_missing fields n (length (take (256 * n) begin))) ≡ fault (AtSignal place (get_or fields i signal.Label)) Truncated
read-short Honest fields i n begin now bytes found b w m place lt h eb ew em taken short at-place o =
    let field = get_or fields i signal.Label in
    let B : ℕ = column_before field in
    let W : ℕ = column_width field in
    let L : ℕ = length (take (256 * n) begin) in
    let size : w * m ≡ W * n = ap (λ k. k * m) ew ∙ ap (λ k. W * k) em in
    let start = begins fields i lt in
    let here : now ≡ drop (B * n) begin = h.left o ∙ ap (λ k. drop (k * n) begin) start in
    let all = length-take (256 * n) begin in
    let low : next_before (drop i fields) * n ≤ L = (h.stands o).start in
    let at : next_before (drop i fields) * n ≡ B * n = ap (λ k. k * n) start in
    let some : length bytes ≡ min (w * m) (length now) = ap length (taken o) ∙ length-take (w * m) now in
    let rest-long : length now ≡ length begin - B * n = ap length here ∙ length-drop (B * n) begin in
    let inside = end-within fields i n lt h.adjacent in
    let bm : b * m ≡ B * n = ap (λ k. k * m) eb ∙ ap (λ k. B * k) em in
    let left : L - b * m ≡ length bytes = omega (arith, all, low, at, some, rest-long, inside, bm, short, size) in
    missing-at fields i n b w m L lt (h.stands o).tests (h.stands o).start eb ew em (omega (arith, all, low, at, some, rest-long, inside, bm, short, size))
    ∙ ap (λ k. fault (AtSignal (k / w) field) Truncated) left
    ∙ ap (λ k. fault (AtSignal k field) Truncated) (sym at-place)

-- all columns were read
pub read-ends : (Honest : Type 0) (fields : List SignalField) (i n : ℕ) (begin now : List ℕ) (found : List WideColumn) → i ≡ length fields → HasRead Honest fields i n begin now found
    → (AreColumns n fields found × (Honest → now ≡ drop (256 * n) begin)) × (Honest → all_bytes found ≡ take (256 * n) begin)
read-ends Honest fields i n begin now found e h =
    let none : drop i fields ≡ [] = ap (λ k. drop k fields) e ∙ drop-length fields in
    let all : take i fields ≡ fields = ap (λ k. take k fields) e ∙ take-length fields in
    let end : next_before (drop i fields) ≡ 256 = ap next_before none in
    ((subst (λ (fs : List SignalField). AreColumns n fs found) all h.shape, λ o. h.left o ∙ ap (λ k. drop (k * n) begin) end), λ o. h.front o ∙ ap (λ k. take (k * n) begin) end)
