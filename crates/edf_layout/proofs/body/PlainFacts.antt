-- Plain bodies that say the same are one.
use Rattle.std.proofs.Common.{◌≡◌, ℕ, ℤ, ◌<◌, List, refl, ap, ◌∙◌, sym, subst, arith}
use Rattle.std.specs.List.Sorted.{IsPermutation}
use Rattle.std.proofs.lemmas.List.Sorted.{IsPermutation-sym, IsPermutation-trans}
use Rattle.edf_fields.proofs.ForCallers.{get-within}
use Rattle.edf_header.specs.Heads.{Head}
use Rattle.edf_stream.specs.Conforming.{Conforms}
use Rattle.edf_stream.specs.annotation.Notes.{NoteValue}
use Rattle.edf_stream.specs.records.Records.{record_at}
use Rattle.edf_layout.specs.body.BodyLaws.{HaveSameSamples}
use Rattle.edf_layout.specs.body.BodyLayouts.{BodyLayout, HasBodyLayout}
use Rattle.edf_layout.specs.body.MeaningLaws.{HaveSameNotes, HaveSameBodyLayout}
use Rattle.edf_layout.specs.body.PlainOrders.{PlainOrder, OneByOne, ByTime, HaveStarts, IsOfOrder, IsPlainBody, lane_sizes, plain_body}
use Rattle.edf_layout.specs.body.PlainBodyLaws.{OneOrderAtMost, PlainBodiesAreOne}
use Rattle.edf_layout.proofs.body.BodyFacts.{start-one}
use Rattle.edf_layout.proofs.HeadFacts.{head-same, layout_is_the_rest}
use Rattle.edf_layout.proofs.body.MeaningFacts.{one-notes, members-same, starts-same, body_has_one_layout, layout_and_meaning_are_the_file}
use Rattle.edf_layout.proofs.body.OrderFacts.{one_order}

-- a layout of an order is the one of this order
of-order : (order : PlainOrder) (notes : List NoteValue) (sizes : List ℕ) (starts : List ℤ) (layout : BodyLayout) → IsOfOrder order notes sizes starts layout → layout ≡ plain_body order notes sizes starts
of-order OneByOne notes sizes starts layout h = h
of-order ByTime notes sizes starts layout h = h.0

-- the starts of data records
pub starts-alike : (file other : List ℕ) (h : Head) → Conforms file h → Conforms other h → HaveSameSamples file h other h → (xs ys : List ℤ) → HaveStarts file h xs → HaveStarts other h ys → xs ≡ ys
starts-alike file other h c d same xs ys a b =
    members-same xs ys (a.count ∙ sym b.count)
    (λ k x y e f.
    let within : k < h.records = (let low = get-within xs k x e in let count = a.count in omega (arith, low, count)) in
    let mine = a.said k x e in
    let theirs = b.said k y f in
    start-one h (record_at file h k) x ((c.says).starts k) mine.0 ((c.says).notes k) mine.1 ((c.says).say k within)
    ∙ starts-same file other h c d same k within
    ∙ start-one h (record_at other h k) ((d.says).starts k) y ((d.says).notes k) theirs.0 ((d.says).say k within) theirs.1)

bodies-alike : (file other : List ℕ) (h : Head) (order : PlainOrder) → Conforms file h → Conforms other h → HaveSameSamples file h other h → HaveSameNotes file h other h
    → IsPlainBody order file h → IsPlainBody order other h → HaveSameBodyLayout file h other h
bodies-alike file other h order c d samples (ns, ms, hasn, hasm, permuted) a b =
    let first : a.notes ≡ ns = one-notes file h c a.notes ns a.has_notes hasn in
    let second : b.notes ≡ ms = one-notes other h d b.notes ms b.has_notes hasm in
    let left : IsPermutation a.ordered ns = subst (IsPermutation a.ordered) first (IsPermutation-sym a.notes a.ordered a.rearranged) in
    let right : IsPermutation ms b.ordered = subst (λ xs. IsPermutation xs b.ordered) second b.rearranged in
    let both : IsPermutation a.ordered b.ordered = IsPermutation-trans a.ordered ms b.ordered (IsPermutation-trans a.ordered ns ms left permuted) right in
    let notes : a.ordered ≡ b.ordered = one_order a.ordered b.ordered both a.in_order b.in_order in
    let starts : a.starts ≡ b.starts = starts-alike file other h c d samples a.starts b.starts a.has_starts b.has_starts in
    let layout : a.layout ≡ b.layout =
    of-order order a.ordered (lane_sizes h) a.starts a.layout a.plain
    ∙ ap (λ xs. plain_body order xs (lane_sizes h) a.starts) notes
    ∙ ap (λ xs. plain_body order b.ordered (lane_sizes h) xs) starts
    ∙ sym (of-order order b.ordered (lane_sizes h) b.starts b.layout b.plain) in
    (a.layout, a.has_layout, subst (HasBodyLayout other h) (sym layout) b.has_layout)

pub plain_bodies_are_one : PlainBodiesAreOne
plain_bodies_are_one file other h g order bytes more c d said layout samples notes a b =
    let front = (layout_is_the_rest file other h g c.header d.header).1 (said, layout) in
    let is : g ≡ h = sym (head-same file other h g c.header d.header front) in
    let body : HaveSameBodyLayout file h other h =
    bodies-alike file other h order c (subst (λ (k : Head). Conforms other k) is d) (subst (λ (k : Head). HaveSameSamples file h other k) is samples)
    (subst (λ (k : Head). HaveSameNotes file h other k) is notes) a (subst (λ (k : Head). IsPlainBody order other k) is b) in
    (layout_and_meaning_are_the_file file other h g bytes more c d).1 (said, layout, samples, notes, subst (λ (k : Head). HaveSameBodyLayout file h other k) (sym is) body)

-- a layout that fits both orders is of the first one alone
not-both : (file : List ℕ) (h : Head) → Conforms file h → IsPlainBody OneByOne file h → IsPlainBody ByTime file h → ⊥
not-both file h c a b =
    let notes : a.notes ≡ b.notes = one-notes file h c a.notes b.notes a.has_notes b.has_notes in
    let between : IsPermutation a.ordered b.notes = subst (IsPermutation a.ordered) notes (IsPermutation-sym a.notes a.ordered a.rearranged) in
    let ordered : a.ordered ≡ b.ordered = one_order a.ordered b.ordered (IsPermutation-trans a.ordered b.notes b.ordered between b.rearranged) a.in_order b.in_order in
    let starts : a.starts ≡ b.starts = starts-alike file file h c c (λ x. (λ y. y, λ y. y)) a.starts b.starts a.has_starts b.has_starts in
    let some = body_has_one_layout file h c in
    let layout : b.layout ≡ a.layout = some.2 b.layout b.has_layout ∙ sym (some.2 a.layout a.has_layout) in
    (b.plain).1
    (layout ∙ a.plain
    ∙ ap (λ xs. plain_body OneByOne xs (lane_sizes h) a.starts) ordered
    ∙ ap (λ xs. plain_body OneByOne b.ordered (lane_sizes h) xs) starts)

pub one_order_at_most : OneOrderAtMost
one_order_at_most file h c OneByOne OneByOne a b = refl
one_order_at_most file h c OneByOne ByTime a b = absurd (not-both file h c a b)
one_order_at_most file h c ByTime OneByOne a b = absurd (not-both file h c b a)
one_order_at_most file h c ByTime ByTime a b = refl
