-- Which annotations don't stand equally often in two lists.
use Rattle.std.proofs.Common.{◌≡◌, ℕ, zero, suc, ◌+◌, ◌<◌, Bool, List, [], ◌∷◌, ◌++◌, drop, get_or, map, filter, length, Option, Some, None, inl, inr, ◌⊎◌, refl, sym, ap, ◌∙◌, subst, arith, append_assoc, Ordering, Less, Equal, Greater}
use Rattle.std.proofs.lemmas.List.{append-nil, map-append}
use Rattle.std.proofs.lemmas.List.Elements.{filter-append}
use Rattle.std.specs.Int.{from_bool}
use Rattle.std.specs.Ordering.{is_le, is_ge}
use Rattle.edf_stream.specs.declared.annotation.notes.Note.{Note}
use Rattle.edf_stream.specs.annotation.Notes.{NoteValue}
use Rattle.edf_stream.specs.Views.{note_value}
use Rattle.edf_verdict.specs.declared.verdict.AnnotationMismatch.{AnnotationMismatch}
use Rattle.edf_verdict.specs.declared.verdict.AnnotationMismatch.TheVariants.{Missing, Extra}
use Rattle.edf_pace.specs.declared.notes.only_in_one.OnlyInOne.{OnlyInOne}
use Rattle.edf_pace.specs.Annotations.{IsMore, SameNotes, note_cmp, times}
use Rattle.edf_pace.specs.Laws.{NoneIsFoundWhereSame}
use Rattle.edf_pace.specs.notes.NoteOrder.{NoteMismatch, by_order, first_unequal_of}
use Rattle.edf_pace.specs.notes.OnlyInOne.{AreFoundTo, AreOnlyInOne, ArePlacesOf, by_cmp, extra_note, first_note, is_extra, is_missing, missing_note, rest_from, said_at, said_of, unequals_of}
use Rattle.edf_pace.proofs.notes.NoteOrderFacts.{Answer, counted}

-- ---- the law

pub first_is_first : (xs ys : List NoteValue) → first_unequal_of xs ys ≡ first_note (unequals_of xs ys)
unfolding unequals_of
first_is_first [] [] = refl
first_is_first [] (y ∷ ys) = refl
first_is_first (x ∷ xs) [] = refl
first_is_first (x ∷ xs) (y ∷ ys) = by (note_cmp x y) (first_is_first xs ys)
  where
    by : (o : Ordering) → first_unequal_of xs ys ≡ first_note (unequals_of xs ys)
        → by_order o x y (first_unequal_of xs ys) ≡ first_note (by_cmp o (missing_note x ∷ unequals_of xs (y ∷ ys)) (unequals_of xs ys) (extra_note y ∷ unequals_of (x ∷ xs) ys))
    by Less rest = refl
    by Equal rest = rest
    by Greater rest = refl

-- ---- two lists

only-missing : (xs : List NoteValue) → unequals_of xs [] ≡ map missing_note xs
unfolding unequals_of
only-missing [] = refl
only-missing (x ∷ xs) = refl

values_at : (k : ℕ) (notes : List Note) (n : Note) → k < length notes → map note_value (drop k notes) ≡ note_value (get_or notes k n) ∷ map note_value (drop (suc k) notes)
values_at k [] n lt = absurd (omega (arith, lt))
values_at zero (x ∷ notes) n lt = refl
values_at (suc k) (x ∷ notes) n lt = values_at k notes n (omega (arith, lt))

-- a list of which some were passed has no more
pub at_the_end : (k : ℕ) (notes : List Note) → k ≡ length notes → map note_value (drop k notes) ≡ []
at_the_end k notes e = ap (λ j. map note_value (drop j notes)) e ∙ ap (map note_value) (drop-all notes)
  where
    drop-all : (xs : List Note) → drop (length xs) xs ≡ []
    drop-all [] = refl
    drop-all (x ∷ xs) = drop-all xs

-- what stands at a place is what the annotation there says
at_place : (k : ℕ) (notes : List Note) (n : Note) → k < length notes → said_at notes k ≡ Some (note_value (get_or notes k n))
at_place k [] n lt = absurd (omega (arith, lt))
at_place zero (x ∷ notes) n lt = refl
at_place (suc k) (x ∷ notes) n lt = at_place k notes n (omega (arith, lt))

-- one more that is said
said_more : (is : AnnotationMismatch → Bool) (ds es : List NoteMismatch) → said_of is (ds ++ es) ≡ said_of is ds ++ said_of is es
said_more is ds es =
    let test : NoteMismatch → Bool = λ d. is d.mismatch in
    ap (map (λ (d : NoteMismatch). Some d.note)) (filter-append test ds es) ∙ map-append (λ (d : NoteMismatch). Some d.note) (filter test ds) (filter test es)

-- places of a kind, and those of one annotation more
more_places : (is : AnnotationMismatch → Bool) (notes : List Note) (ps qs rs : List ℕ) (ds es : List NoteMismatch) → map (said_at notes) ps ≡ said_of is ds → rs ≡ ps ++ qs → map (said_at notes) qs ≡ said_of is es
    → map (said_at notes) rs ≡ said_of is (ds ++ es)
more_places is notes ps qs rs ds es was more one =
    ap (map (said_at notes)) more ∙ map-append (said_at notes) ps qs ∙ ap (λ xs. xs ++ map (said_at notes) qs) was ∙ ap (λ xs. said_of is ds ++ xs) one ∙ sym (said_more is ds es)

-- one step of two lists in order
pub step : (ks es : List Note) (t u : OnlyInOne) (i j : ℕ) (x y : Note) (which : Ordering) → i < length ks → j < length es → which ≡ note_cmp (note_value (get_or ks i x)) (note_value (get_or es j y))
    → u.missing.items ≡ t.missing.items ++ by_cmp which (i ∷ []) [] [] → u.extra.items ≡ t.extra.items ++ by_cmp which [] [] (j ∷ []) → AreFoundTo ks es t i j
    → AreFoundTo ks es u (i + from_bool (is_le which)) (j + from_bool (is_ge which))
unfolding unequals_of
step ks es t u i j x y which li lj is missing extra was = go which (sym is) missing extra
  where
    a : NoteValue
    a = note_value (get_or ks i x)

    b : NoteValue
    b = note_value (get_or es j y)

    here : map note_value (drop i ks) ≡ a ∷ map note_value (drop (suc i) ks)
    here = values_at i ks x li

    there : map note_value (drop j es) ≡ b ∷ map note_value (drop (suc j) es)
    there = values_at j es y lj

    all : unequals_of (map note_value (drop i ks)) (map note_value (drop j es))
        ≡ by_cmp (note_cmp a b) (missing_note a ∷ unequals_of (map note_value (drop (suc i) ks)) (b ∷ map note_value (drop (suc j) es)))
        (unequals_of (map note_value (drop (suc i) ks)) (map note_value (drop (suc j) es)))
        (extra_note b ∷ unequals_of (a ∷ map note_value (drop (suc i) ks)) (map note_value (drop (suc j) es)))
    all = ap (λ zs. unequals_of zs (map note_value (drop j es))) here ∙ ap (unequals_of (a ∷ map note_value (drop (suc i) ks))) there

    up : (n : ℕ) → suc n ≡ n + 1
    up n = omega arith

    same : (n : ℕ) → n ≡ n + 0
    same n = omega arith

    onward : (o : Ordering) (ds : List NoteMismatch) → note_cmp a b ≡ o → ArePlacesOf ks es u (was.ds ++ ds)
        → by_cmp o (missing_note a ∷ unequals_of (map note_value (drop (suc i) ks)) (b ∷ map note_value (drop (suc j) es)))
        (unequals_of (map note_value (drop (suc i) ks)) (map note_value (drop (suc j) es)))
        (extra_note b ∷ unequals_of (a ∷ map note_value (drop (suc i) ks)) (map note_value (drop (suc j) es)))
        ≡ ds ++ unequals_of (map note_value (drop (i + from_bool (is_le o)) ks)) (map note_value (drop (j + from_bool (is_ge o)) es))
        → AreFoundTo ks es u (i + from_bool (is_le o)) (j + from_bool (is_ge o))
    onward o ds e places next =
        let rest = unequals_of (map note_value (drop (i + from_bool (is_le o)) ks)) (map note_value (drop (j + from_bool (is_ge o)) es)) in
        let cut = all ∙ ap (λ p. by_cmp p (missing_note a ∷ unequals_of (map note_value (drop (suc i) ks)) (b ∷ map note_value (drop (suc j) es)))
        (unequals_of (map note_value (drop (suc i) ks)) (map note_value (drop (suc j) es)))
        (extra_note b ∷ unequals_of (a ∷ map note_value (drop (suc i) ks)) (map note_value (drop (suc j) es)))) e ∙ next in
        record { ds = was.ds ++ ds; places = places; rest = append_assoc was.ds ds rest ∙ ap (λ zs. was.ds ++ zs) (sym cut) ∙ was.rest }

    go : (o : Ordering) → note_cmp a b ≡ o → u.missing.items ≡ t.missing.items ++ by_cmp o (i ∷ []) [] [] → u.extra.items ≡ t.extra.items ++ by_cmp o [] [] (j ∷ [])
        → AreFoundTo ks es u (i + from_bool (is_le o)) (j + from_bool (is_ge o))
    go Less e m x' =
        onward Less (missing_note a ∷ []) e
        (record {
          missing = more_places is_missing ks t.missing.items (i ∷ []) u.missing.items was.ds (missing_note a ∷ []) was.places.missing m (ap (λ s. s ∷ []) (at_place i ks x li));
          extra = more_places is_extra es t.extra.items [] u.extra.items was.ds (missing_note a ∷ []) was.places.extra x' refl;
        })
        (ap (λ zs. missing_note a ∷ unequals_of (map note_value (drop (suc i) ks)) zs) (sym there)
        ∙ ap (λ k. missing_note a ∷ unequals_of (map note_value (drop k ks)) (map note_value (drop j es))) (up i)
        ∙ ap (λ k. missing_note a ∷ unequals_of (map note_value (drop (i + 1) ks)) (map note_value (drop k es))) (same j))
    go Equal e m x' =
        onward Equal [] e
        (record {
          missing = more_places is_missing ks t.missing.items [] u.missing.items was.ds [] was.places.missing m refl;
          extra = more_places is_extra es t.extra.items [] u.extra.items was.ds [] was.places.extra x' refl;
        })
        (ap (λ k. unequals_of (map note_value (drop k ks)) (map note_value (drop (suc j) es))) (up i)
        ∙ ap (λ k. unequals_of (map note_value (drop (i + 1) ks)) (map note_value (drop k es))) (up j))
    go Greater e m x' =
        onward Greater (extra_note b ∷ []) e
        (record {
          missing = more_places is_missing ks t.missing.items [] u.missing.items was.ds (extra_note b ∷ []) was.places.missing m refl;
          extra = more_places is_extra es t.extra.items (j ∷ []) u.extra.items was.ds (extra_note b ∷ []) was.places.extra x' (ap (λ s. s ∷ []) (at_place j es y lj));
        })
        (ap (λ zs. extra_note b ∷ unequals_of zs (map note_value (drop (suc j) es))) (sym here)
        ∙ ap (λ k. extra_note b ∷ unequals_of (map note_value (drop k ks)) (map note_value (drop (suc j) es))) (same i)
        ∙ ap (λ k. extra_note b ∷ unequals_of (map note_value (drop (i + 0) ks)) (map note_value (drop k es))) (up j))

-- nothing was found at the front
pub none_found : (ks es : List Note) (t : OnlyInOne) → t.missing.items ≡ [] → t.extra.items ≡ [] → AreFoundTo ks es t 0 0
none_found ks es t m e = record {
  ds = [];
  places = record { missing = ap (map (said_at ks)) m; extra = ap (map (said_at es)) e };
  rest = refl;
}

-- one place more, and what is left
rest_here : (k : ℕ) (notes : List Note) → k < length notes → rest_from notes k ≡ said_at notes k ∷ rest_from notes (suc k)
rest_here k [] lt = absurd (omega (arith, lt))
rest_here zero (x ∷ notes) lt = refl
rest_here (suc k) (x ∷ notes) lt = rest_here k notes (omega (arith, lt))

pub rest_step : (notes : List Note) (ps qs : List ℕ) (k : ℕ) → k < length notes → qs ≡ ps ++ (k ∷ []) → map (said_at notes) qs ++ rest_from notes (k + 1) ≡ map (said_at notes) ps ++ rest_from notes k
rest_step notes ps qs k lt more =
    ap (λ xs. map (said_at notes) xs ++ rest_from notes (k + 1)) more
    ∙ ap (λ xs. xs ++ rest_from notes (k + 1)) (map-append (said_at notes) ps (k ∷ []))
    ∙ append_assoc (map (said_at notes) ps) (said_at notes k ∷ []) (rest_from notes (k + 1))
    ∙ ap (λ m. map (said_at notes) ps ++ (said_at notes k ∷ rest_from notes m)) (let e : k + 1 ≡ suc k = omega arith in e)
    ∙ ap (λ xs. map (said_at notes) ps ++ xs) (sym (rest_here k notes lt))

pub rest_end : (notes : List Note) (ps : List ℕ) (k : ℕ) → k ≡ length notes → map (said_at notes) ps ≡ map (said_at notes) ps ++ rest_from notes k
rest_end notes ps k e = sym (ap (λ vs. map (said_at notes) ps ++ map Some vs) (at_the_end k notes e) ∙ append-nil (map (said_at notes) ps))

-- what is missing and extra of what stands in one list alone
said_missing : (vs : List NoteValue) → said_of is_missing (map missing_note vs) ≡ map Some vs
said_missing [] = refl
said_missing (v ∷ vs) = ap (λ xs. Some v ∷ xs) (said_missing vs)

no_extra : (vs : List NoteValue) → said_of is_extra (map missing_note vs) ≡ []
no_extra [] = refl
no_extra (v ∷ vs) = no_extra vs

said_extra : (vs : List NoteValue) → said_of is_extra (map extra_note vs) ≡ map Some vs
said_extra [] = refl
said_extra (v ∷ vs) = ap (λ xs. Some v ∷ xs) (said_extra vs)

no_missing : (vs : List NoteValue) → said_of is_missing (map extra_note vs) ≡ []
no_missing [] = refl
no_missing (v ∷ vs) = no_missing vs

-- where one of both has no more, the rest of both is the rest of the one and of the other
rests : (ks es : List Note) (i j : ℕ) → (i ≡ length ks) ⊎ (j ≡ length es)
    → (said_of is_missing (unequals_of (map note_value (drop i ks)) (map note_value (drop j es))) ≡ rest_from ks i)
    × (said_of is_extra (unequals_of (map note_value (drop i ks)) (map note_value (drop j es))) ≡ rest_from es j)
unfolding unequals_of
rests ks es i j (inl e) =
    let none = at_the_end i ks e in
    let vs = map note_value (drop j es) in (
      ap (λ xs. said_of is_missing (unequals_of xs vs)) none ∙ no_missing vs ∙ sym (ap (map Some) none),
      ap (λ xs. said_of is_extra (unequals_of xs vs)) none ∙ said_extra vs,
    )
rests ks es i j (inr e) =
    let none = at_the_end j es e in
    let vs = map note_value (drop i ks) in
    let only = ap (unequals_of vs) none ∙ only-missing vs in (
      ap (said_of is_missing) only ∙ said_missing vs,
      ap (said_of is_extra) only ∙ no_extra vs ∙ sym (ap (map Some) none),
    )

pub all_found : (ks es : List Note) (t u : OnlyInOne) (i j : ℕ) → (i ≡ length ks) ⊎ (j ≡ length es) → AreFoundTo ks es t i j
    → map (said_at ks) u.missing.items ≡ map (said_at ks) t.missing.items ++ rest_from ks i → map (said_at es) u.extra.items ≡ map (said_at es) t.extra.items ++ rest_from es j
    → AreOnlyInOne ks es u
all_found ks es t u i j over was missing extra =
    let left = unequals_of (map note_value (drop i ks)) (map note_value (drop j es)) in
    let r = rests ks es i j over in
    record {
      missing = missing ∙ ap (λ xs. xs ++ rest_from ks i) was.places.missing ∙ ap (λ xs. said_of is_missing was.ds ++ xs) (sym r.0) ∙ sym (said_more is_missing was.ds left) ∙ ap (said_of is_missing) was.rest;
      extra = extra ∙ ap (λ xs. xs ++ rest_from es j) was.places.extra ∙ ap (λ xs. said_of is_extra was.ds ++ xs) (sym r.1) ∙ sym (said_more is_extra was.ds left) ∙ ap (said_of is_extra) was.rest;
    }

-- ---- nothing is found where both are the same

nothing : (ds : List NoteMismatch) → said_of is_missing ds ≡ [] → said_of is_extra ds ≡ [] → ds ≡ []
nothing [] m e = refl
nothing (d ∷ ds) m e = by d.mismatch refl
  where
    by : (k : AnnotationMismatch) → d.mismatch ≡ k → d ∷ ds ≡ []
    by Missing is = absurd (let z : Some d.note ∷ said_of is_missing ds ≡ [] = sym (rw is refl) ∙ m in cc)
    by Extra is = absurd (let z : Some d.note ∷ said_of is_extra ds ≡ [] = sym (rw is refl) ∙ e in cc)

no_places : (notes : List Note) (places : List ℕ) → map (said_at notes) places ≡ [] → places ≡ []
no_places notes [] e = refl
no_places notes (p ∷ ps) e = absurd (let z : said_at notes p ∷ map (said_at notes) ps ≡ [] = e in cc)

first_of_none : (ds : List NoteMismatch) → first_note ds ≡ None → ds ≡ []
first_of_none [] e = refl
first_of_none (d ∷ ds) e = absurd (let z : Some d ≡ None = e in cc)

not-more : (m : AnnotationMismatch) (a b : ℕ) → a ≡ b → IsMore m a b → ⊥
not-more Missing a b e h = omega (arith, e, h)
not-more Extra a b e h = omega (arith, e, h)

none_by : (kept exported : List NoteValue) (o : Option NoteMismatch) → Answer kept exported o → SameNotes kept exported → o ≡ None
none_by kept exported None h same = refl
none_by kept exported (Some d) h same = absurd (not-more d.mismatch (times kept d.note) (times exported d.note) (same d.note) h.differ)

pub none_is_found : NoneIsFoundWhereSame
none_is_found kept sorted exported ordered found p q up on is = (there, back)
  where
    ds : List NoteMismatch
    ds = unequals_of (map note_value sorted) (map note_value ordered)

    answer : Answer (map note_value kept) (map note_value exported) (first_unequal_of (map note_value sorted) (map note_value ordered))
    answer = counted kept sorted exported ordered (first_unequal_of (map note_value sorted) (map note_value ordered)) p q up on refl

    there : (found.missing.items ≡ []) × (found.extra.items ≡ []) → SameNotes (map note_value kept) (map note_value exported)
    there (m, e) =
        let none : ds ≡ [] = nothing ds (sym is.missing ∙ ap (map (said_at sorted)) m) (sym is.extra ∙ ap (map (said_at ordered)) e) in
        let first : first_unequal_of (map note_value sorted) (map note_value ordered) ≡ None = first_is_first (map note_value sorted) (map note_value ordered) ∙ ap first_note none in
        subst (Answer (map note_value kept) (map note_value exported)) first answer

    back : SameNotes (map note_value kept) (map note_value exported) → (found.missing.items ≡ []) × (found.extra.items ≡ [])
    back same =
        let first : first_unequal_of (map note_value sorted) (map note_value ordered) ≡ None = none_by (map note_value kept) (map note_value exported) (first_unequal_of (map note_value sorted) (map note_value ordered)) answer same in
        let none : ds ≡ [] = first_of_none ds (sym (first_is_first (map note_value sorted) (map note_value ordered)) ∙ first) in (
          no_places sorted found.missing.items (is.missing ∙ ap (said_of is_missing) none),
          no_places ordered found.extra.items (is.extra ∙ ap (said_of is_extra) none),
        )
