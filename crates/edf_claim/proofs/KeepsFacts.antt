-- What a claim keeps: bounds of its intervals, and the tests in words.
use Rattle.std.proofs.Common.{◌≡◌, ◌≢◌, ◌↔◌, ℕ, ℤ, pos, ◌+◌, ◌*ℤ◌, ◌<◌, ◌^◌, int_le, int_lt, not, ◌||◌, Bool, true, false, List, [], ◌∷◌, ◌++◌, length, get_or, take, drop, unsigned_abs, inl, inr, ⊎_elim, refl, sym, ap, ◌∙◌, subst, add-one, arith}
use Rattle.std.specs.List.{All, list_any}
use Rattle.std.proofs.lemmas.Int.{ints}
use Rattle.edf_claim.specs.Claims.{IsInterval}
use Rattle.edf_claim.specs.ClaimValues.{ClaimValue}
use Rattle.edf_claim.specs.declared.kept.interval.Interval.{Interval}
use Rattle.edf_fields.specs.declared.fields.which.Which.{Which}
use Rattle.edf_claim.specs.Keeps.{keeps_instant, keeps_annotation, removes}
use Rattle.edf_claim.specs.KeepsReading.{KeepsAnnotation, BeginsWith, Removes, Blanks, blanks, IsWithin, KeepsInstant, is_within, begins_with}
use Rattle.edf_fields.specs.Lists.{Has, is_one_of}
use Rattle.edf_fields.proofs.ForCallers.{has-one_of, one_of-has, or-true, and-true, not-true, both-true, not-is, le-passes, lt-passes}
use Rattle.std.proofs.Math.Seq.{drop-cons, take-append_seam}
use Rattle.std.proofs.lemmas.List.{take-append-drop}
use Rattle.std.proofs.lemmas.Slice.Eq.{bytes_eq-Decides}
use Rattle.edf_claim.proofs.PrefixFacts.{any-has, has-any}

pub near_bound : (i : Interval) → IsInterval i → (unsigned_abs i.from_ps < 2 ^ 100) × (unsigned_abs i.to_ps < 2 ^ 100)
near_bound i h =
    let start = h.start in
    let order = h.order in
    let near = h.near in
    (omega (arith, ints, start, order, near), omega (arith, ints, start, order, near))

pub near_bounds : (is : List Interval) → All IsInterval is → All (λ i. (unsigned_abs i.from_ps < 2 ^ 100) × (unsigned_abs i.to_ps < 2 ^ 100)) is
near_bounds is h k d lt = near_bound (get_or is k d) (h k d lt)

-- what stands at a place of a list, and what stands behind it
cut-at : (ws : List Which) (i : ℕ) (d : Which) → i < length ws → drop i ws ≡ get_or ws i d ∷ drop (i + 1) ws
cut-at ws i d lt = drop-cons ws i d lt ∙ ap (λ k. get_or ws i d ∷ drop k ws) (sym (add-one i))

pub has_here : (ws : List Which) (i : ℕ) (d w : Which) → i < length ws → get_or ws i d ≡ w → Has (drop i ws) w
has_here ws i d w lt e = subst (λ (xs : List Which). Has xs w) (sym (cut-at ws i d lt)) (inl e)

pub has_next : (ws : List Which) (i : ℕ) (d w : Which) → i < length ws → get_or ws i d ≢ w → Has (drop i ws) w ↔ Has (drop (i + 1) ws) w
has_next ws i d w lt other = (
  λ h. ⊎_elim (λ e. absurd (other e)) (λ more. more) (subst (λ (xs : List Which). Has xs w) (cut-at ws i d lt) h),
  λ more. subst (λ (xs : List Which). Has xs w) (sym (cut-at ws i d lt)) (inr more),
)

-- an interval's test
within-is : (i : Interval) (num : ℤ) (den : ℕ) → is_within i num den ≡ true → IsWithin i num den
within-is i num den h =
    let both = and-true (int_le (i.from_ps *ℤ pos den) num) (int_lt num (i.to_ps *ℤ pos den)) h in
    ((let p = both.0 in omega (arith, ints)), (let p = both.1 in omega (arith, ints)))

within-tested : (i : Interval) (num : ℤ) (den : ℕ) → IsWithin i num den → is_within i num den ≡ true
within-tested i num den h =
    both-true (int_le (i.from_ps *ℤ pos den) num) (int_lt num (i.to_ps *ℤ pos den)) (le-passes (i.from_ps *ℤ pos den) num h.0) (lt-passes num (i.to_ps *ℤ pos den) h.1)

-- one of the intervals
any-within : (is : List Interval) (num : ℤ) (den : ℕ) → list_any (λ i. is_within i num den) is ≡ true → (i : Interval) × Has is i × IsWithin i num den
any-within [] num den h = absurd (let e : false ≡ true = h in cc)
any-within (i ∷ is) num den h = any-case (is_within i num den) refl h (λ q. any-within is num den q)
  where
    any-case : (b : Bool) → is_within i num den ≡ b → (b || list_any (λ j. is_within j num den) is) ≡ true → (list_any (λ j. is_within j num den) is ≡ true → (j : Interval) × Has is j × IsWithin j num den)
        → (j : Interval) × Has (i ∷ is) j × IsWithin j num den
    any-case true e t more = (i, inl refl, within-is i num den e)
    any-case false e t more = let found = more t in (found.0, inr found.1, found.2)

within-any : (is : List Interval) (num : ℤ) (den : ℕ) (i : Interval) → Has is i → IsWithin i num den → list_any (λ j. is_within j num den) is ≡ true
within-any [] num den i there h = absurd there
within-any (j ∷ is) num den i (inl e) h = ap (λ b. b || list_any (λ k. is_within k num den) is) (within-tested j num den (subst (λ (k : Interval). IsWithin k num den) (sym e) h))
within-any (j ∷ is) num den i (inr there) h = or-true (is_within j num den) (list_any (λ k. is_within k num den) is) (within-any is num den i there h)

pub instant_kept : (c : ClaimValue) (num : ℤ) (den : ℕ) (b : Bool) → b ≡ keeps_instant c num den → (b ≡ true) ↔ KeepsInstant c num den
instant_kept c num den b e = (
  λ h. any-within c.keep num den (sym e ∙ h),
  λ h. e ∙ within-any c.keep num den h.0 h.1 h.2,
)

pub channel_kept : (labels : List (List ℕ)) (label : List ℕ) (b : Bool) → b ≡ is_one_of labels label → (b ≡ true) ↔ Has labels label
channel_kept labels label b e = (λ h. one_of-has labels label (sym e ∙ h), λ h. e ∙ has-one_of labels label h)

-- one of the prefixes
prefix-said : (prefix text : List ℕ) → begins_with prefix text ≡ true → BeginsWith prefix text
prefix-said prefix text h =
    (drop (length prefix) text, sym (take-append-drop (length prefix) text) ∙ ap (λ front. front ++ drop (length prefix) text) (sym ((bytes_eq-Decides prefix (take (length prefix) text)).0 h)))

prefix-tested : (prefix text : List ℕ) → BeginsWith prefix text → begins_with prefix text ≡ true
prefix-tested prefix text h =
    (bytes_eq-Decides prefix (take (length prefix) text)).1 (sym (take-append_seam prefix h.0) ∙ ap (take (length prefix)) (sym h.1))

removed-said : (c : ClaimValue) (text : List ℕ) → removes c text ≡ true → Removes c text
removed-said c text h = either (is_one_of c.remove text) refl h
  where
    either : (b : Bool) → is_one_of c.remove text ≡ b → (b || list_any (λ prefix. begins_with prefix text) c.remove_prefix) ≡ true → Removes c text
    either true e t = inl (one_of-has c.remove text e)
    either false e t = let found = any-has (λ prefix. begins_with prefix text) c.remove_prefix t in inr (found.0, found.1, prefix-said found.0 text found.2)

removed-tested : (c : ClaimValue) (text : List ℕ) → Removes c text → removes c text ≡ true
removed-tested c text (inl there) = ap (λ b. b || list_any (λ prefix. begins_with prefix text) c.remove_prefix) (has-one_of c.remove text there)
removed-tested c text (inr found) =
    or-true (is_one_of c.remove text) (list_any (λ prefix. begins_with prefix text) c.remove_prefix) (has-any (λ prefix. begins_with prefix text) c.remove_prefix found.0 found.1 (prefix-tested found.0 text found.2))

pub annotation_kept : (c : ClaimValue) (onset : ℤ) (text : List ℕ) (b : Bool) → b ≡ keeps_annotation c onset text → (b ≡ true) ↔ KeepsAnnotation c onset text
annotation_kept c onset text b e = (
  λ h. let both = and-true (keeps_instant c onset 1) (not (removes c text)) (sym e ∙ h) in
      (any-within c.keep onset 1 both.0, λ there. let z : true ≡ false = sym (removed-tested c text there) ∙ not-true (removes c text) both.1 in cc),
  λ h. e ∙ both-true (keeps_instant c onset 1) (not (removes c text)) (within-any c.keep onset 1 h.0.0 h.0.1 h.0.2) (not-is (removes c text) (λ t. h.1 (removed-said c text t))),
)

pub text_blanked : (c : ClaimValue) (text : List ℕ) (b : Bool) → b ≡ blanks c text → (b ≡ true) ↔ Blanks c text
text_blanked c text b e = channel_kept c.blank text b e
