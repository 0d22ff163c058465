-- Annotations that all differ in one way, one pair after the other.
use Rattle.std.proofs.Math.Seq.{take-suc}
use Rattle.std.proofs.lemmas.Bool.{cases_order}
use Rattle.std.proofs.lemmas.Bool.Decides.{Decides-int_eq}
use Rattle.std.proofs.lemmas.List.{map-append}
use Rattle.std.proofs.lemmas.List.Sorted.{IsPermutation-map, IsPermutation-sym, IsPermutation-trans}
use Rattle.std.proofs.lemmas.Option.{get_or_from_slice_get, slice_get_within}
use Rattle.std.proofs.lemmas.Slice.Eq.{bytes_eq-Decides}
use Rattle.std.proofs.Common.{◌≡◌, ◌∙◌, ◌<◌, ◌++◌, ◌+◌, ◌&&◌, ◌⊎◌, ℕ, ℤ, suc, Bor, Bool, true, false, List, [], ◌∷◌, IfSome, IsPermutation, Option, Some, inl, inr, map, slice_get, take, refl, sym, ap, arith, subst}
use Rattle.std.specs.Cmp.Lexicographic.{pointwise}
use Rattle.std.specs.Ordering.{int_eq}
use Rattle.std.specs.Str.{bytes_eq}
use Rattle.edf_fields.proofs.ForCallers.{and-true}
use Rattle.edf_pace.specs.declared.notes.only_in_one.OnlyInOne.{OnlyInOne}
use Rattle.edf_stream.specs.declared.annotation.notes.Note.{Note}
use Rattle.edf_findings.specs.declared.notes.both.Notes.{Notes}
use Rattle.edf_findings.specs.OneWays.{AreTimesAndTexts, AreWithoutDurations, HaveDurations, IsTimeAndText, has_duration_at, said_in, time_and_text_at}

-- ---- what is so of each number below another one

pub one-more : (P : ℕ → Type 0) (n : ℕ) → ((k : ℕ) → k < n → P k) → P n → (k : ℕ) → k < n + 1 → P k
one-more P n before here k below = by (cases_order k n)
  where
    by : (k ≡ n) ⊎ ((k < n) ⊎ (n < k)) → P k
    by (inl same) = subst P (sym same) here
    by (inr (inl less)) = before k less
    by (inr (inr more)) = absurd (omega (arith, below, more))

-- ---- times and texts

durations-more : (have : Bool) (notes : List Note) (places : List ℕ) (place : ℕ) → HaveDurations have notes places → has_duration_at notes place ≡ Some have → HaveDurations have notes (places ++ place ∷ [])
durations-more have notes [] place before here = (here, tt)
durations-more have notes (p ∷ ps) place before here = (before.0, durations-more have notes ps place before.1 here)

take-next : (places : List ℕ) (k place : ℕ) → slice_get places k ≡ Some place → take (k + 1) places ≡ take k places ++ place ∷ []
take-next places k place at =
    let next : k + 1 ≡ suc k = omega arith in
    ap (λ n. take n places) next ∙ take-suc places k place (slice_get_within places k place at) ∙ ap (λ p. take k places ++ p ∷ []) (get_or_from_slice_get places k place place at)

pub listed-more : (have : Bool) (notes : List Note) (places : List ℕ) (place : ℕ) (listed : List (ℤ × Bor (List ℕ))) (said : ℤ × Bor (List ℕ)) → AreTimesAndTexts have notes places listed → IsTimeAndText have notes place said
    → AreTimesAndTexts have notes (places ++ place ∷ []) (listed ++ said ∷ [])
listed-more have notes places place listed said before here = record {
  have_them = durations-more have notes places place before.have_them here.has_it;
  are = map-append (time_and_text_at notes) places (place ∷ [])
      ∙ ap (λ xs. xs ++ time_and_text_at notes place ∷ []) before.are
      ∙ ap (λ x. map Some (map said_in listed) ++ x ∷ []) here.said_is
      ∙ sym (map-append Some (map said_in listed) (said_in said ∷ []))
      ∙ ap (map Some) (sym (map-append said_in listed (said ∷ [])));
}

-- ---- the same ones

-- these are alike, as `==` tests it
abbrev pub are-alike : ℤ × Bor (List ℕ) → ℤ × Bor (List ℕ) → Bool
are-alike x y = int_eq x.0 y.0 && bytes_eq x.1.now y.1.now

same-said : (xs ys : List (ℤ × Bor (List ℕ))) → pointwise are-alike xs ys ≡ true → map said_in xs ≡ map said_in ys
same-said [] [] e = refl
same-said [] (y ∷ ys) e = absurd (let z : false ≡ true = e in cc)
same-said (x ∷ xs) [] e = absurd (let z : false ≡ true = e in cc)
same-said (x ∷ xs) (y ∷ ys) e =
    let both = and-true (are-alike x y) (pointwise are-alike xs ys) e in
    let here = and-true (int_eq x.0 y.0) (bytes_eq x.1.now y.1.now) both.0 in
    let time : x.0 ≡ y.0 = (Decides-int_eq x.0 y.0).0 here.0 in
    let text : x.1.now ≡ y.1.now = (bytes_eq-Decides x.1.now y.1.now).0 here.1 in
    let said : said_in x ≡ said_in y = ap (λ t. (t, x.1.now)) time ∙ ap (λ t. (y.0, t)) text in
    ap (λ s. s ∷ map said_in xs) said ∙ ap (λ ss. said_in y ∷ ss) (same-said xs ys both.1)

pub same-permuted : (xs xs' ys ys' : List (ℤ × Bor (List ℕ))) → IsPermutation xs xs' → IsPermutation ys ys' → pointwise are-alike xs' ys' ≡ true → IsPermutation (map said_in xs) (map said_in ys)
same-permuted xs xs' ys ys' p q e =
    IsPermutation-trans (map said_in xs) (map said_in xs') (map said_in ys) (IsPermutation-map said_in xs xs' p)
    (subst (λ zs. IsPermutation zs (map said_in ys)) (sym (same-said xs' ys' e)) (IsPermutation-sym (map said_in ys) (map said_in ys') (IsPermutation-map said_in ys ys' q)))

pub at-some : {A : Type 0} (x : Option A) (P : A → Type 0) (v : A) → x ≡ Some v → IfSome x P → P v
at-some {A} x P v is h = subst (λ (y : Option A). IfSome y P) is h

pub without-durations : (notes : Notes) (only : OnlyInOne) (ks es : List Note) (ms xs : List ℕ) (kept exported : List (ℤ × Bor (List ℕ))) → ks ≡ notes.kept.items → es ≡ notes.exported.items → ms ≡ only.missing.items → xs ≡ only.extra.items
    → AreTimesAndTexts true ks ms kept → AreTimesAndTexts false es xs exported → IsPermutation (map said_in kept) (map said_in exported) → AreWithoutDurations notes only
without-durations notes only ks es ms xs kept exported k e m x first second same =
    let here : AreTimesAndTexts true notes.kept.items only.missing.items kept = subst (λ ns. AreTimesAndTexts true ns only.missing.items kept) k (subst (λ ps. AreTimesAndTexts true ks ps kept) m first) in
    let there : AreTimesAndTexts false notes.exported.items only.extra.items exported = subst (λ ns. AreTimesAndTexts false ns only.extra.items exported) e (subst (λ ps. AreTimesAndTexts false es ps exported) x second) in
    record {
      kept = here.have_them;
      exported = there.have_them;
      same = subst (λ ys. IsPermutation ys (map (time_and_text_at notes.exported.items) only.extra.items)) (sym here.are)
          (subst (λ ys. IsPermutation (map Some (map said_in kept)) ys) (sym there.are) (IsPermutation-map Some (map said_in kept) (map said_in exported) same));
    }
