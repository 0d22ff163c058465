-- The first annotation that doesn't stand equally often in two lists is one.
use Rattle.std.proofs.Common.{Ordering, Less, Equal, Greater, ◌≡◌, ℕ, ℤ, List, Option, Some, None, refl, ap, ◌∙◌, subst, arith}
use Rattle.std.proofs.lemmas.Cmp.{then_total, on_total, int_cmp_total}
use Rattle.std.proofs.lemmas.Map.Lookups.{exact_signed, exact_bytes}
use Rattle.std.specs.Cmp.{IsTotalOrder}
use Rattle.std.specs.Cmp.Lexicographic.{on_texts, options_total, slice_cmp}
use Rattle.std.specs.Option.{option_cmp}
use Rattle.std.specs.Ordering.{int_cmp, nat_cmp, ordering_then, ordering_reverse}
use Rattle.edf_stream.specs.annotation.Notes.{NoteValue}
use Rattle.edf_verdict.specs.declared.verdict.AnnotationMismatch.{AnnotationMismatch}
use Rattle.edf_verdict.specs.declared.verdict.AnnotationMismatch.TheVariants.{Missing, Extra}
use Rattle.edf_pace.specs.Annotations.{note_cmp, times, IsMore, IsFirstNote, SameNotes}

pub note-total : IsTotalOrder note_cmp
note-total = then_total (on_total (λ (n : NoteValue). n.onset) int_cmp_total) (then_total (on_total (λ (n : NoteValue). n.duration) (options_total int_cmp_total)) (on_texts (λ (n : NoteValue). n.text)))

both-equal : (a b : Ordering) → ordering_then a b ≡ Equal → (a ≡ Equal) × (b ≡ Equal)
both-equal Less b e = absurd (let h : Less ≡ Equal = e in cc)
both-equal Equal b e = (refl, e)
both-equal Greater b e = absurd (let h : Greater ≡ Equal = e in cc)

exact-option : (a b : Option ℤ) → option_cmp int_cmp a b ≡ Equal → a ≡ b
exact-option None None e = refl
exact-option None (Some y) e = absurd (let h : Less ≡ Equal = e in cc)
exact-option (Some x) None e = absurd (let h : Greater ≡ Equal = e in cc)
exact-option (Some x) (Some y) e = ap Some (exact_signed x y e)

-- annotations that are equal in order are one
pub note-exact : (a b : NoteValue) → note_cmp a b ≡ Equal → a ≡ b
note-exact a b e =
    let p = both-equal (int_cmp a.onset b.onset) _ e in
    let q = both-equal (option_cmp int_cmp a.duration b.duration) (slice_cmp nat_cmp a.text b.text) p.1 in
    let make : ℤ → Option ℤ → List ℕ → NoteValue = λ o d t. record { onset = o; duration = d; text = t } in
    ap (λ o. make o a.duration a.text) (exact_signed a.onset b.onset p.0)
    ∙ (ap (λ d. make b.onset d a.text) (exact-option a.duration b.duration q.0) ∙ ap (make b.onset b.duration) (exact_bytes a.text b.text q.1))

never : (m : AnnotationMismatch) (a b : ℕ) → a ≡ b → IsMore m a b → ⊥
never Missing a b e l = absurd (omega (arith, e, l))
never Extra a b e l = absurd (omega (arith, e, l))

pub note-apart : (k e : List NoteValue) (m : AnnotationMismatch) (n : NoteValue) → SameNotes k e → IsFirstNote k e m n → ⊥
note-apart k e m n same f = never m (times k n) (times e n) (same n) f.differ

one-side : (a b : ℕ) (m n : AnnotationMismatch) → IsMore m a b → IsMore n a b → m ≡ n
one-side a b Missing Missing h i = refl
one-side a b Missing Extra h i = absurd (omega (arith, h, i))
one-side a b Extra Missing h i = absurd (omega (arith, h, i))
one-side a b Extra Extra h i = refl

pub one-note : (k e : List NoteValue) (m n : AnnotationMismatch) (x y : NoteValue) → IsFirstNote k e m x → IsFirstNote k e n y → (m ≡ n) × (x ≡ y)
one-note k e m n x y f g =
    let s : x ≡ y = cases (note_cmp x y) refl in
    (one-side (times k y) (times e y) m n (subst (λ z. IsMore m (times k z) (times e z)) s f.differ) g.differ, s)
  where
    cases : (o : Ordering) → note_cmp x y ≡ o → x ≡ y
    cases Less i = absurd (never m (times k x) (times e x) (g.least x i) f.differ)
    cases Equal i = note-exact x y i
    cases Greater i = absurd (never n (times k y) (times e y) (f.least y (note-total.antisymm y x ∙ ap ordering_reverse i)) g.differ)
