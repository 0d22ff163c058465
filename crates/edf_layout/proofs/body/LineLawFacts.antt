-- A file has one layout, and what it means and the lines of its layout are the file.
use Rattle.std.proofs.Common.{Ordering, Less, Equal, Greater, ◌≡◌, ℕ, Bool, true, false, cond, zero, suc, ◌+◌, ◌==◌, List, [], ◌∷◌, ◌++◌, slice_index, codes, arith, refl, ap, ◌∙◌, sym, subst}
use Rattle.std.specs.Fmt.{decimal}
use Rattle.std.specs.List.{flat_map}
use Rattle.std.specs.List.Sorted.{IsPermutation}
use Rattle.std.specs.Ordering.{is_lt, ordering_reverse}
use Rattle.std.proofs.lemmas.List.{append_cancel_left}
use Rattle.std.proofs.lemmas.List.Sorted.{IsPermutation-refl, IsPermutation-sym, IsPermutation-trans, IsPermutation-cons, IsPermutation-middle}
use Rattle.edf_fields.specs.FaultTexts.{place_text}
use Rattle.edf_fields.specs.declared.faults.fault.Place.{Place}
use Rattle.edf_fields.specs.declared.fields.layout.FixedField.{FixedField}
use Rattle.edf_header.specs.Heads.{Head}
use Rattle.edf_stream.specs.Conforming.{Conforms}
use Rattle.edf_stream.specs.annotation.Notes.{NoteValue, SaysRecord}
use Rattle.edf_stream.specs.records.Records.{record_at}
use Rattle.edf_layout.specs.HeadLaws.{SayTheSame}
use Rattle.edf_layout.specs.HeadLayouts.{SignalLayout, FrontLayout, HeadLayout, head_layout_of}
use Rattle.edf_layout.specs.HeadReports.{places_of}
use Rattle.edf_layout.specs.HeadTexts.{head_lines}
use Rattle.edf_layout.specs.OddPlaces.{odd_line, odd_number, odd_space, odd_spaces, odd_extras, odd_signal, odd_signals, odd_numbers, odd_identification, odd_front, odd_places, place_lines}
use Rattle.edf_layout.specs.body.BodyLaws.{AreBytes, HaveSameSamples}
use Rattle.edf_layout.specs.body.BodyLayouts.{HasBodyLayout}
use Rattle.edf_layout.specs.body.FileLayouts.{FileLayout, HasLayout, order_line, lane_lines, ending, odd_count, layout_text}
use Rattle.edf_layout.specs.body.LayoutLaws.{FileHasOneLayout, LinesTellLayout, LinesAndMeaningAreTheFile}
use Rattle.edf_layout.specs.body.MeaningLaws.{AreInOrder, HaveSameNotes, HaveSameBodyLayout}
use Rattle.edf_layout.specs.body.NoteOrders.{note_cmp}
use Rattle.edf_layout.specs.body.OddLanes.{OddLane, odd_from, odd_lanes, base_order}
use Rattle.edf_layout.specs.body.PlainOrders.{PlainOrder, OneByOne, ByTime, lane_sizes, plain_body}
use Rattle.edf_layout.proofs.HeadFacts.{head-same, layout_is_the_rest}
use Rattle.edf_layout.proofs.TellsFacts.{head-cut}
use Rattle.edf_layout.proofs.body.FileLayoutFacts.{layout-fits, shapes-same}
use Rattle.edf_layout.proofs.body.MeaningFacts.{one-notes, collected, body_has_one_layout, layout_and_meaning_are_the_file}
use Rattle.edf_layout.proofs.body.OddLaneFacts.{AllLanesFit, EndsLanes, lanes-cut, body-told, lanes-fit}
use Rattle.edf_layout.proofs.body.OrderFacts.{note_total, one_order}
use Rattle.edf_layout.proofs.body.PlainFacts.{starts-alike}

-- ---- annotations can be put in order

-- no annotation comes before the one ahead of it
abbrev Rising : List NoteValue → Type 0
Rising [] = Unit {0}
Rising (x ∷ []) = Unit {0}
Rising (x ∷ y ∷ ys) = (is_lt (note_cmp y x) ≡ false) × Rising (y ∷ ys)

rising-in-order : (xs : List NoteValue) → Rising xs → AreInOrder xs
rising-in-order [] up k d low high = absurd (omega (arith, high))
rising-in-order (x ∷ []) up k d low high = absurd (omega (arith, high))
rising-in-order (x ∷ y ∷ ys) up zero d low high = up.0
rising-in-order (x ∷ y ∷ ys) up (suc k) d low high =
    let e : suc k + 1 ≡ suc (k + 1) = omega arith in
    rw e (rising-in-order (y ∷ ys) up.1 k d (omega arith) (omega (arith, high)))

-- an annotation at its place among others
inserted : NoteValue → List NoteValue → List NoteValue
inserted x [] = x ∷ []
inserted x (y ∷ ys) = cond (is_lt (note_cmp y x)) (y ∷ inserted x ys) (x ∷ y ∷ ys)

not-both : (x y : NoteValue) → is_lt (note_cmp y x) ≡ true → is_lt (note_cmp x y) ≡ false
not-both x y e = ap is_lt (note_total.antisymm x y) ∙ other (note_cmp y x) e
  where
    other : (o : Ordering) → is_lt o ≡ true → is_lt (ordering_reverse o) ≡ false
    other Less h = refl
    other Equal h = absurd (let z : false ≡ true = h in cc)
    other Greater h = absurd (let z : false ≡ true = h in cc)

-- behind an annotation that comes first
rising-behind : (x y : NoteValue) (ys : List NoteValue) → is_lt (note_cmp x y) ≡ false → Rising (y ∷ ys) → Rising (inserted x ys) → Rising (y ∷ inserted x ys)
unfolding inserted
rising-behind x y [] h up more = (h, tt)
rising-behind x y (z ∷ zs) h up more = cases (is_lt (note_cmp z x)) more
  where
    cases : (b : Bool) → Rising (cond b (z ∷ inserted x zs) (x ∷ z ∷ zs)) → Rising (y ∷ cond b (z ∷ inserted x zs) (x ∷ z ∷ zs))
    cases true rest = (up.0, rest)
    cases false rest = (h, rest)

rising-tail : (y : NoteValue) (ys : List NoteValue) → Rising (y ∷ ys) → Rising ys
rising-tail y [] up = tt
rising-tail y (z ∷ zs) up = up.1

rising-inserted : (x : NoteValue) (ys : List NoteValue) → Rising ys → Rising (inserted x ys)
unfolding inserted
rising-inserted x [] up = tt
rising-inserted x (y ∷ ys) up = cases (is_lt (note_cmp y x)) refl (rising-inserted x ys (rising-tail y ys up))
  where
    cases : (b : Bool) → is_lt (note_cmp y x) ≡ b → Rising (inserted x ys) → Rising (cond b (y ∷ inserted x ys) (x ∷ y ∷ ys))
    cases true e more = rising-behind x y ys (not-both x y e) up more
    cases false e more = (e, up)

inserted-permuted : (x : NoteValue) (ys : List NoteValue) → IsPermutation (x ∷ ys) (inserted x ys)
unfolding inserted
inserted-permuted x [] = IsPermutation-refl (x ∷ [])
inserted-permuted x (y ∷ ys) = cases (is_lt (note_cmp y x)) (inserted-permuted x ys)
  where
    cases : (b : Bool) → IsPermutation (x ∷ ys) (inserted x ys) → IsPermutation (x ∷ y ∷ ys) (cond b (y ∷ inserted x ys) (x ∷ y ∷ ys))
    cases true more =
        IsPermutation-trans (x ∷ y ∷ ys) (y ∷ x ∷ ys) (y ∷ inserted x ys)
        (IsPermutation-sym (y ∷ x ∷ ys) (x ∷ y ∷ ys) (IsPermutation-middle (y ∷ []) x ys))
        (IsPermutation-cons y (x ∷ ys) (inserted x ys) more)
    cases false more = IsPermutation-refl (x ∷ y ∷ ys)

some-order : (xs : List NoteValue) → (ys : List NoteValue) × IsPermutation xs ys × Rising ys
some-order [] = ([], IsPermutation-refl [], tt)
some-order (x ∷ xs) =
    let rest = some-order xs in (
      inserted x rest.0,
      IsPermutation-trans (x ∷ xs) (x ∷ rest.0) (inserted x rest.0) (IsPermutation-cons x xs rest.0 rest.1) (inserted-permuted x rest.0),
      rising-inserted x rest.0 rest.2,
    )

-- ---- one layout

-- what the layout of data records is told by is the same of two files that mean the same
record Alike (file other : List ℕ) (h : Head) (layout more : FileLayout) (a : HasLayout file h layout) (b : HasLayout other h more) : Type 0 where
  notes : a.ordered ≡ b.ordered
  starts : a.starts ≡ b.starts

alike : (file other : List ℕ) (h : Head) (layout more : FileLayout) (a : HasLayout file h layout) (b : HasLayout other h more) → Conforms file h → Conforms other h
    → HaveSameSamples file h other h → HaveSameNotes file h other h → Alike file other h layout more a b
alike file other h layout more a b c d samples (ns, ms, hasn, hasm, permuted) =
    let first : a.notes ≡ ns = one-notes file h c a.notes ns a.has_notes hasn in
    let second : b.notes ≡ ms = one-notes other h d b.notes ms b.has_notes hasm in
    let left : IsPermutation a.ordered ns = subst (IsPermutation a.ordered) first (IsPermutation-sym a.notes a.ordered a.rearranged) in
    let right : IsPermutation ms b.ordered = subst (λ xs. IsPermutation xs b.ordered) second b.rearranged in
    let both : IsPermutation a.ordered b.ordered = IsPermutation-trans a.ordered ms b.ordered (IsPermutation-trans a.ordered ns ms left permuted) right in
    record {
      notes = one_order a.ordered b.ordered both a.in_order b.in_order;
      starts = starts-alike file other h c d samples a.starts b.starts a.has_starts b.has_starts;
    }

made : HeadLayout → PlainOrder → List OddLane → FileLayout
made head order odd = record { head = head; order = order; odd = odd }

layouts-equal : (l m : FileLayout) → l.head ≡ m.head → l.order ≡ m.order → l.odd ≡ m.odd → l ≡ m
unfolding made
layouts-equal l m head order odd =
    ap (λ x. made x l.order l.odd) head ∙ ap (λ x. made m.head x l.odd) order ∙ ap (made m.head m.order) odd

at-most : (file : List ℕ) (h : Head) → Conforms file h → (l m : FileLayout) → HasLayout file h l → HasLayout file h m → l ≡ m
at-most file h c l m a b =
    let samples : HaveSameSamples file h file h = λ x. (λ y. y, λ y. y) in
    let notes : HaveSameNotes file h file h = (a.notes, a.notes, a.has_notes, a.has_notes, IsPermutation-refl a.notes) in
    let same = alike file file h l m a b c c samples notes in
    let one = body_has_one_layout file h c in
    let body : a.body ≡ b.body = one.2 a.body a.has_body ∙ sym (one.2 b.body b.has_body) in
    let order : l.order ≡ m.order =
    a.order ∙ ap (λ xs. base_order xs (lane_sizes h) a.starts a.body) same.notes ∙ ap (λ xs. base_order b.ordered (lane_sizes h) xs a.body) same.starts
    ∙ ap (base_order b.ordered (lane_sizes h) b.starts) body ∙ sym b.order in
    let odd : l.odd ≡ m.odd =
    a.odd ∙ ap (λ o. odd_lanes o a.ordered (lane_sizes h) a.starts a.body) order ∙ ap (λ xs. odd_lanes m.order xs (lane_sizes h) a.starts a.body) same.notes
    ∙ ap (λ xs. odd_lanes m.order b.ordered (lane_sizes h) xs a.body) same.starts ∙ ap (odd_lanes m.order b.ordered (lane_sizes h) b.starts) body ∙ sym b.odd in
    layouts-equal l m (a.head ∙ sym b.head) order odd

pub file_has_one_layout : FileHasOneLayout
file_has_one_layout file h c =
    let body = body_has_one_layout file h c in
    let own : List NoteValue = c.notes in
    let order = some-order own in
    let starts = collected (λ k start. (notes : List NoteValue) × SaysRecord h (record_at file h k) start notes) h.records (λ k within. ((c.says).starts k, ((c.says).notes k, (c.says).say k within))) in
    let base : PlainOrder = base_order order.0 (lane_sizes h) starts.0 body.0 in
    let layout : FileLayout = record { head = head_layout_of file h; order = base; odd = odd_lanes base order.0 (lane_sizes h) starts.0 body.0 } in
    let has : HasLayout file h layout = record {
      notes = own;
      ordered = order.0;
      starts = starts.0;
      body = body.0;
      has_notes = c.says;
      rearranged = order.1;
      in_order = rising-in-order order.0 order.2;
      has_starts = record { count = starts.1; said = starts.2 };
      has_body = body.1;
      head = refl;
      order = refl;
      odd = refl;
    } in
    (layout, has, λ other there. at-most file h c other layout there has)

-- ---- the lines of odd places begin with a letter that begins no line of a lane

abbrev Begun : List (List ℕ) → Type 0
Begun [] = Unit {0}
Begun (line ∷ lines) = ((r : List ℕ) × (line ≡ 110 ∷ r)) × Begun lines

begun-both : (xs ys : List (List ℕ)) → Begun xs → Begun ys → Begun (xs ++ ys)
begun-both [] ys h k = k
begun-both (x ∷ xs) ys h k = (h.0, begun-both xs ys h.1 k)

begun-line : (place : Place) (words : List ℕ) → (r : List ℕ) × (odd_line place words ≡ 110 ∷ r)
unfolding odd_line
begun-line place words = (codes "ot plain: " ++ (place_text place ++ words), refl)

begun-unless : (b : Bool) (place : Place) (words : List ℕ) → Begun (cond b [] (odd_line place words ∷ []))
begun-unless true place words = tt
begun-unless false place words = (begun-line place words, tt)

begun-if : (b : Bool) (place : Place) (words : List ℕ) → Begun (cond b (odd_line place words ∷ []) [])
begun-if true place words = (begun-line place words, tt)
begun-if false place words = tt

begun-number : (place : Place) (text : List ℕ) → Begun (odd_number place text)
unfolding odd_number
begun-number place text = begun-unless _ place (codes " spells " ++ text)

begun-spaces : (field : FixedField) (k : ℕ) (counts : List ℕ) → Begun (odd_spaces field k counts)
begun-spaces field k [] = tt
begun-spaces field k (n ∷ counts) = begun-both (odd_space field k n) (odd_spaces field (k + 1) counts) (begun-unless (n == 1) _ _) (begun-spaces field (k + 1) counts)

begun-signal : (s : ℕ) (l : SignalLayout) → Begun (odd_signal s l)
unfolding odd_signal
begun-signal s l =
    begun-both _ _ (begun-number _ l.physical_minimum)
    (begun-both _ _ (begun-number _ l.physical_maximum)
    (begun-both _ _ (begun-number _ l.digital_minimum)
    (begun-both _ _ (begun-number _ l.digital_maximum) (begun-number _ l.samples))))

begun-signals : (s : ℕ) (ls : List SignalLayout) → Begun (odd_signals s ls)
begun-signals s [] = tt
begun-signals s (l ∷ ls) = begun-both (odd_signal s l) (odd_signals (s + 1) ls) (begun-signal s l) (begun-signals (s + 1) ls)

begun-identification : (field : FixedField) (counts : List ℕ) (extras : List (List ℕ)) → Begun (odd_identification field counts extras)
unfolding odd_identification
begun-identification field counts extras = begun-both (odd_spaces field 1 counts) (odd_extras field extras) (begun-spaces field 1 counts) (begun-if _ _ _)

begun-front : (l : FrontLayout) (patient recording : List (List ℕ)) → Begun (odd_front l patient recording)
unfolding odd_front odd_numbers
begun-front l patient recording =
    begun-both _ _ (begun-identification _ l.patient_spaces patient)
    (begun-both _ _ (begun-identification _ l.recording_spaces recording)
    (begun-both _ _ (begun-number _ l.size) (begun-both _ _ (begun-number _ l.records) (begun-both _ _ (begun-number _ l.duration) (begun-number _ l.count)))))

begun-places : (l : HeadLayout) (h : Head) → Begun (places_of l h)
unfolding odd_places
begun-places l h =
    begun-both (odd_front l.front h.patient.extras h.recording.extras) (odd_signals 0 l.signals) (begun-front l.front h.patient.extras h.recording.extras) (begun-signals 0 l.signals)

ending-ends : (n : ℕ) → EndsLanes (ending n)
unfolding ending
ending-ends n = cases (n == 0)
  where
    cases : (b : Bool) → EndsLanes (cond b (codes "PLAIN" ++ (10 ∷ [])) (codes "NOT PLAIN " ++ (decimal n ++ (10 ∷ []))))
    cases true = (80, codes "LAIN" ++ (10 ∷ []), refl, λ e. omega (arith, e), λ e. omega (arith, e))
    cases false = (78, codes "OT PLAIN " ++ (decimal n ++ (10 ∷ [])), refl, λ e. omega (arith, e), λ e. omega (arith, e))

rest-ends : (places : List (List ℕ)) (n : ℕ) → Begun places → EndsLanes (place_lines places ++ ending n)
rest-ends [] n h = ending-ends n
rest-ends (line ∷ lines) n h =
    let begun = h.0 in (
      110,
      ((begun.0 ++ (10 ∷ [])) ++ place_lines lines) ++ ending n,
      ap (λ l. ((l ++ (10 ∷ [])) ++ place_lines lines) ++ ending n) begun.1,
      λ e. omega (arith, e),
      λ e. omega (arith, e),
    )

-- ---- the lines tell the layout

order-cut : (o p : PlainOrder) (x y : List ℕ) → order_line o ++ x ≡ order_line p ++ y → (o ≡ p) × (x ≡ y)
order-cut OneByOne OneByOne x y e = (refl, append_cancel_left (order_line OneByOne) x y e)
order-cut ByTime ByTime x y e = (refl, append_cancel_left (order_line ByTime) x y e)
order-cut OneByOne ByTime x y e = absurd (let z : 111 ≡ 98 = ap (λ r. slice_index r 12) e in omega (arith, z))
order-cut ByTime OneByOne x y e = absurd (let z : 98 ≡ 111 = ap (λ r. slice_index r 12) e in omega (arith, z))

odd-fits : (file : List ℕ) (h : Head) (l : FileLayout) → Conforms file h → HasLayout file h l → AllLanesFit l.odd
unfolding odd_lanes
odd-fits file h l c a =
    let f = layout-fits file h a.body c a.has_body in
    subst AllLanesFit (sym a.odd) (lanes-fit 0 a.body (plain_body l.order a.ordered (lane_sizes h) a.starts) f.fits f.few f.small)

pub lines_tell_layout : LinesTellLayout
unfolding layout_text
lines_tell_layout file other h g c d l m a b same =
    let x = place_lines (places_of l.head h) ++ ending (odd_count l h) in
    let y = place_lines (places_of m.head g) ++ ending (odd_count m g) in
    let head = head-cut file other h g (order_line l.order ++ (flat_map lane_lines l.odd ++ x)) (order_line m.order ++ (flat_map lane_lines m.odd ++ y)) c.header d.header
    (ap (λ k. head_lines k ++ (order_line l.order ++ (flat_map lane_lines l.odd ++ x))) (sym a.head) ∙ same
    ∙ ap (λ k. head_lines k ++ (order_line m.order ++ (flat_map lane_lines m.odd ++ y))) b.head) in
    let order = order-cut l.order m.order (flat_map lane_lines l.odd ++ x) (flat_map lane_lines m.odd ++ y) head.1 in
    let odd = lanes-cut l.odd m.odd x y (odd-fits file h l c a) (odd-fits other g m d b)
    (rest-ends (places_of l.head h) (odd_count l h) (begun-places l.head h)) (rest-ends (places_of m.head g) (odd_count m g) (begun-places m.head g)) order.1 in
    layouts-equal l m (a.head ∙ head.0 ∙ sym b.head) order.0 odd.0

-- ---- the law

-- files with one header that mean the same and have one layout
bodies-same : (file other : List ℕ) (h : Head) (l m : FileLayout) → Conforms file h → Conforms other h → HaveSameSamples file h other h → HaveSameNotes file h other h
    → HasLayout file h l → HasLayout other h m → l ≡ m → HaveSameBodyLayout file h other h
unfolding odd_lanes
bodies-same file other h l m c d samples notes a b is =
    let same = alike file other h l m a b c d samples notes in
    let f = layout-fits file h a.body c a.has_body in
    let g = layout-fits other h b.body d b.has_body in
    let sizes = lane_sizes h in
    let plain : plain_body l.order a.ordered sizes a.starts ≡ plain_body m.order b.ordered sizes b.starts =
    ap (λ (k : FileLayout). plain_body k.order a.ordered sizes a.starts) is ∙ ap (λ xs. plain_body m.order xs sizes a.starts) same.notes ∙ ap (plain_body m.order b.ordered sizes) same.starts in
    let odd : odd_from 0 a.body (plain_body m.order b.ordered sizes b.starts) ≡ odd_from 0 b.body (plain_body m.order b.ordered sizes b.starts) =
    ap (odd_from 0 a.body) (sym plain) ∙ sym a.odd ∙ ap (λ (k : FileLayout). k.odd) is ∙ b.odd in
    let body : a.body ≡ b.body = body-told 0 a.body b.body (plain_body m.order b.ordered sizes b.starts) (shapes-same h a.body b.body f g) f.fits g.fits odd in
    (a.body, a.has_body, subst (HasBodyLayout other h) (sym body) b.has_body)

lines-give : (file other : List ℕ) (h g : Head) → AreBytes file → AreBytes other → Conforms file h → Conforms other g → (l m : FileLayout) → HasLayout file h l → HasLayout other g m
    → SayTheSame h g → HaveSameSamples file h other g → HaveSameNotes file h other g → layout_text l h ≡ layout_text m g → file ≡ other
lines-give file other h g bytes more c d l m a b said samples notes same =
    let is : l ≡ m = lines_tell_layout file other h g c d l m a b same in
    let head : head_layout_of file h ≡ head_layout_of other g = sym a.head ∙ ap (λ (k : FileLayout). k.head) is ∙ b.head in
    let front = (layout_is_the_rest file other h g c.header d.header).1 (said, head) in
    let one : g ≡ h = sym (head-same file other h g c.header d.header front) in
    let body : HaveSameBodyLayout file h other h =
    bodies-same file other h l m c (subst (λ (k : Head). Conforms other k) one d) (subst (λ (k : Head). HaveSameSamples file h other k) one samples)
    (subst (λ (k : Head). HaveSameNotes file h other k) one notes) a (subst (λ (k : Head). HasLayout other k m) one b) is in
    (layout_and_meaning_are_the_file file other h g bytes more c d).1 (said, head, samples, notes, subst (λ (k : Head). HaveSameBodyLayout file h other k) (sym one) body)

file-gives : (file other : List ℕ) (h g : Head) → AreBytes file → AreBytes other → Conforms file h → Conforms other g → (l m : FileLayout) → HasLayout file h l → HasLayout other g m
    → file ≡ other → SayTheSame h g × HaveSameSamples file h other g × HaveSameNotes file h other g × (layout_text l h ≡ layout_text m g)
file-gives file other h g bytes more c d l m a b same =
    let parts = (layout_and_meaning_are_the_file file other h g bytes more c d).0 same in
    let front = (layout_is_the_rest file other h g c.header d.header).1 (parts.0, parts.1) in
    let one : g ≡ h = sym (head-same file other h g c.header d.header front) in
    let own : HasLayout file h m = subst (λ f. HasLayout f h m) (sym same) (subst (λ (k : Head). HasLayout other k m) one b) in
    let is : l ≡ m = at-most file h c l m a own in (
      parts.0,
      parts.2,
      parts.3,
      ap (λ (k : FileLayout). layout_text k h) is ∙ ap (layout_text m) (sym one),
    )

pub lines_and_meaning_are_the_file : LinesAndMeaningAreTheFile
lines_and_meaning_are_the_file file other h g bytes more c d l m a b =
    (file-gives file other h g bytes more c d l m a b, λ all. lines-give file other h g bytes more c d l m a b all.0 all.1 all.2 all.3)
