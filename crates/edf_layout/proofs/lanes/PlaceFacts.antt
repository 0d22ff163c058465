-- The place of an annotation in a list in order is where those before it end.
use Rattle.std.proofs.Common.{Ordering, Less, Equal, Greater, ◌≡◌, ℕ, ℤ, zero, suc, Bool, true, false, cond, int_le, ◌-◌, ◌<◌, ◌≤◌, List, [], ◌∷◌, length, get_or, map, arith, refl, ap, ◌∙◌, sym}
use Rattle.std.specs.List.{count_by}
use Rattle.std.specs.List.Sorted.{IsPartitionedBy, IsPartitionPoint}
use Rattle.std.specs.Ordering.{is_lt, ordering_reverse}
use Rattle.std.proofs.lemmas.Int.{ints}
use Rattle.std.proofs.lemmas.List.{length-map, get_or-map}
use Rattle.std.proofs.lemmas.List.Sorted.{sorted_far, ranks_by}
use Rattle.std.proofs.lemmas.List.Sums.{sum_by-cons}
use Rattle.edf_fields.proofs.ForCallers.{le-tested, le-passes}
use Rattle.edf_stream.specs.annotation.Notes.{NoteValue}
use Rattle.edf_stream.specs.Views.{note_value}
use Rattle.edf_stream.specs.declared.annotation.notes.Note.{Note}
use Rattle.edf_layout.specs.body.MeaningLaws.{AreInOrder}
use Rattle.edf_layout.specs.body.NoteOrders.{note_cmp, place_of}
use Rattle.edf_layout.specs.body.PlainLanes.{AreRising}
use Rattle.edf_layout.specs.body.PlainOrders.{record_of_onset}
use Rattle.edf_layout.proofs.body.OrderFacts.{note_total, note_exact, place-cons}

abbrev as-number : Bool → ℕ
as-number b = cond b 1 0

-- the annotation comes before this one
abbrev pub comes-before : NoteValue → Note → Bool
comes-before key note = is_lt (note_cmp (note_value note) key)

-- those before it stand ahead of the others
passes : (x y key : NoteValue) → is_lt (note_cmp y x) ≡ false → is_lt (note_cmp y key) ≡ true → is_lt (note_cmp x key) ≡ true
passes x y key up less = cases (note_cmp x key) refl
  where
    before : note_cmp y key ≡ Less
    before = of (note_cmp y key) less
      where
        of : (o : Ordering) → is_lt o ≡ true → o ≡ Less
        of Less h = refl
        of Equal h = absurd (let z : false ≡ true = h in cc)
        of Greater h = absurd (let z : false ≡ true = h in cc)

    clash : note_cmp y x ≡ Less → ⊥
    clash e = (let z : true ≡ false = sym (ap is_lt e) ∙ up in cc)

    cases : (o : Ordering) → note_cmp x key ≡ o → is_lt o ≡ true
    cases Less e = refl
    cases Equal e = absurd (clash (ap (note_cmp y) (note_exact x key e) ∙ before))
    cases Greater e = absurd (clash (note_total.trans y key x before (note_total.antisymm key x ∙ ap ordering_reverse e)))

-- how many come before, where they stand ahead of the others
counted : (key : NoteValue) (notes : List Note) (i : ℕ) → i ≤ length notes
    → ((k : ℕ) → k < i → (d : Note) → comes-before key (get_or notes k d) ≡ true) → ((k : ℕ) → i ≤ k → k < length notes → (d : Note) → comes-before key (get_or notes k d) ≡ false)
    → place_of (map note_value notes) key ≡ i
counted key [] zero low h k = refl
counted key [] (suc i) low h k = absurd (omega (arith, low))
counted key (n ∷ ns) zero low h k =
    let one = place-cons (note_value n) (map note_value ns) key in
    let here : as-number (comes-before key n) ≡ 0 = ap as-number (k 0 (omega arith) (omega arith) n) in
    let rest : place_of (map note_value ns) key ≡ 0 = counted key ns zero (omega arith) (λ j less d. absurd (omega (arith, less))) (λ j from less d. k (suc j) (omega arith) (omega (arith, less)) d) in
    omega (arith, one, here, rest)
counted key (n ∷ ns) (suc i) low h k =
    let one = place-cons (note_value n) (map note_value ns) key in
    let here : as-number (comes-before key n) ≡ 1 = ap as-number (h 0 (omega arith) n) in
    let rest : place_of (map note_value ns) key ≡ i = counted key ns i (omega (arith, low)) (λ j less d. h (suc j) (omega (arith, less)) d) (λ j from less d. k (suc j) (omega (arith, from)) (omega (arith, less)) d) in
    omega (arith, one, here, rest)

-- a list in order is parted by each annotation
pub parted : (key : NoteValue) (notes : List Note) → AreInOrder (map note_value notes) → IsPartitionedBy (comes-before key) notes
parted key notes up i j d least low less =
    let long = length-map notes note_value in
    let far = sorted_far (λ a b. is_lt (note_cmp a b)) (ranks_by note_total (λ n. n)) (map note_value notes) up i j (note_value d) least (omega (arith, long, low)) in
    let one : get_or (map note_value notes) i (note_value d) ≡ note_value (get_or notes i d) = get_or-map note_value notes i d (note_value d) (omega (arith, least, low)) in
    let two : get_or (map note_value notes) j (note_value d) ≡ note_value (get_or notes j d) = get_or-map note_value notes j d (note_value d) low in
    passes (note_value (get_or notes i d)) (note_value (get_or notes j d)) key
    (ap (λ y. is_lt (note_cmp y (note_value (get_or notes i d)))) (sym two) ∙ ap (λ x. is_lt (note_cmp (get_or (map note_value notes) j (note_value d)) x)) (sym one) ∙ far) less

pub place-found : (key : NoteValue) (notes : List Note) (i : ℕ) → i ≤ length notes → IsPartitionPoint (λ (n : Note). comes-before key n ≡ true) (λ (n : Note). comes-before key n ≡ false) notes i
    → i ≡ place_of (map note_value notes) key
place-found key notes i low point = sym (counted key notes i low (λ k less d. point.0 k d (omega arith) less) (λ k from less d. point.1 k d from less))

-- ---- starts that rise

-- how many pass, where these stand ahead of the others
count-parted : {X : Type 0} (p : X → Bool) (xs : List X) (i : ℕ) → i ≤ length xs → ((k : ℕ) → k < i → (d : X) → p (get_or xs k d) ≡ true)
    → ((k : ℕ) → i ≤ k → k < length xs → (d : X) → p (get_or xs k d) ≡ false) → count_by p xs ≡ i
count-parted p [] zero low h k = refl
count-parted p [] (suc i) low h k = absurd (omega (arith, low))
count-parted p (x ∷ xs) zero low h k =
    let one = sum_by-cons (λ y. cond (p y) 1 0) x xs in
    let here : as-number (p x) ≡ 0 = ap as-number (k 0 (omega arith) (omega arith) x) in
    let rest : count_by p xs ≡ 0 = count-parted p xs zero (omega arith) (λ j less d. absurd (omega (arith, less))) (λ j from less d. k (suc j) (omega arith) (omega (arith, less)) d) in
    omega (arith, one, here, rest)
count-parted p (x ∷ xs) (suc i) low h k =
    let one = sum_by-cons (λ y. cond (p y) 1 0) x xs in
    let here : as-number (p x) ≡ 1 = ap as-number (h 0 (omega arith) x) in
    let rest : count_by p xs ≡ i = count-parted p xs i (omega (arith, low)) (λ j less d. h (suc j) (omega (arith, less)) d) (λ j from less d. k (suc j) (omega (arith, from)) (omega (arith, less)) d) in
    omega (arith, one, here, rest)

pub starts-parted : (onset : ℤ) (starts : List ℤ) → AreRising starts → IsPartitionedBy (λ start. int_le start onset) starts
starts-parted onset starts up i j d least low less =
    let rise = up i j d least low in
    let top = le-tested (get_or starts j d) onset less in
    le-passes (get_or starts i d) onset (omega (arith, ints, rise, top))

pub record-found : (onset : ℤ) (starts : List ℤ) (i n : ℕ) → i ≤ length starts → IsPartitionPoint (λ start. int_le start onset ≡ true) (λ start. int_le start onset ≡ false) starts i
    → n ≡ i - 1 → n ≡ record_of_onset starts onset
record-found onset starts i n low point is =
    is ∙ ap (λ k. k - 1) (sym (count-parted (λ start. int_le start onset) starts i low (λ k less d. point.0 k d (omega arith) less) (λ k from less d. point.1 k d from less)))
