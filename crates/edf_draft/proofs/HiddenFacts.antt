-- The subfields that an export hides, found one after the other.
use Rattle.std.proofs.Common.{◌≡◌, ◌⊎◌, ◌↔◌, inl, inr, Bool, false, IsTrue, List, [], ◌∷◌, ◌++◌, map, refl, subst, sym}
use Rattle.edf_fields.specs.Lists.{Has}
use Rattle.edf_fields.specs.declared.fields.which.Which.{Which}
use Rattle.edf_fields.specs.fields.SubfieldNamesReading.{all_subfields}
use Rattle.edf_header.specs.Heads.{Head}
use Rattle.edf_heads.proofs.ForCallers.{has-all}
use Rattle.edf_stream.specs.records.Readers.{Reader}
use Rattle.edf_draft.specs.Hidden.{AreLeft, IsHidden, IsHiddenInAll}

-- a subfield that the one export there is hides is hidden in all
pub alone_hidden : (o e : Head) (others : List Reader) (which : Which) (r : Bool) → others ≡ [] → IsTrue r ↔ IsHidden o e which
    → IsTrue r ↔ IsHiddenInAll o (e ∷ map (λ x. x.head) others) which
alone_hidden o e [] which r none is = is
alone_hidden o e (x ∷ xs) which r none is = absurd cc

-- where the first export hides it, it is hidden in all if it is in those behind it
pub more_hidden : (o e : Head) (others rest : List Reader) (next : Reader) (which : Which) (a b : Bool) → others ≡ next ∷ rest → IsTrue a
    → IsTrue a ↔ IsHidden o e which → IsTrue b ↔ IsHiddenInAll o (next.head ∷ map (λ x. x.head) rest) which
    → IsTrue b ↔ IsHiddenInAll o (e ∷ map (λ x. x.head) others) which
more_hidden o e others rest next which a b same so first behind =
    subst (λ all. IsTrue b ↔ IsHiddenInAll o (e ∷ map (λ x. x.head) all) which) (sym same)
    ((λ h. (first.0 so, behind.0 h)), λ h. behind.1 h.1)

-- and it isn't where the first one shows it
pub not_hidden : (o e : Head) (others rest : List Reader) (next : Reader) (which : Which) (a : Bool) → others ≡ next ∷ rest → (IsTrue a → ⊥)
    → IsTrue a ↔ IsHidden o e which → IsTrue false ↔ IsHiddenInAll o (e ∷ map (λ x. x.head) others) which
not_hidden o e others rest next which a same never first =
    subst (λ all. IsTrue false ↔ IsHiddenInAll o (e ∷ map (λ x. x.head) all) which) (sym same)
    ((λ h. absurd cc), λ h. absurd (never (first.1 h.0)))

-- at first none was found, and all are left
pub all_left : (o : Head) (e : List Head) → AreLeft o e [] all_subfields
all_left o e which = (side, λ h. inr (has-all which, h)) where
  side : (Has [] which ⊎ (Has all_subfields which × IsHiddenInAll o e which)) → IsHiddenInAll o e which
  side (inl x) = absurd x
  side (inr p) = p.1

-- in the end none is left
pub none_left : (o : Head) (e : List Head) (found : List Which) → AreLeft o e found [] → (which : Which) → Has found which ↔ IsHiddenInAll o e which
none_left o e found left which = ((λ h. (left which).0 (inl h)), λ h. side ((left which).1 h)) where
  side : (Has found which ⊎ (Has [] which × IsHiddenInAll o e which)) → Has found which
  side (inl x) = x
  side (inr p) = absurd p.0

has_front : (xs : List Which) (x which : Which) → Has xs which → Has (xs ++ x ∷ []) which
has_front [] x which h = absurd h
has_front (y ∷ ys) x which (inl p) = inl p
has_front (y ∷ ys) x which (inr h) = inr (has_front ys x which h)

has_last : (xs : List Which) (x which : Which) → x ≡ which → Has (xs ++ x ∷ []) which
has_last [] x which p = inl p
has_last (y ∷ ys) x which p = inr (has_last ys x which p)

has_either : (xs : List Which) (x which : Which) → Has (xs ++ x ∷ []) which → Has xs which ⊎ (x ≡ which)
has_either [] x which (inl p) = inr p
has_either [] x which (inr h) = absurd h
has_either (y ∷ ys) x which (inl p) = inl (inl p)
has_either (y ∷ ys) x which (inr h) = side (has_either ys x which h) where
  side : Has ys which ⊎ (x ≡ which) → Has (y ∷ ys) which ⊎ (x ≡ which)
  side (inl a) = inl (inr a)
  side (inr b) = inr b

-- the next one is hidden
pub one_found : (o : Head) (e : List Head) (found rest : List Which) (x : Which) → IsHiddenInAll o e x → AreLeft o e found (x ∷ rest) → AreLeft o e (found ++ x ∷ []) rest
one_found o e found rest x is left which = (to, λ h. back h ((left which).1 h)) where
  found_one : Has found which ⊎ (x ≡ which) → IsHiddenInAll o e which
  found_one (inl h) = (left which).0 (inl h)
  found_one (inr p) = subst (IsHiddenInAll o e) p is

  to : (Has (found ++ x ∷ []) which ⊎ (Has rest which × IsHiddenInAll o e which)) → IsHiddenInAll o e which
  to (inl h) = found_one (has_either found x which h)
  to (inr p) = p.1

  back : IsHiddenInAll o e which → (Has found which ⊎ (Has (x ∷ rest) which × IsHiddenInAll o e which)) → Has (found ++ x ∷ []) which ⊎ (Has rest which × IsHiddenInAll o e which)
  back h (inl a) = inl (has_front found x which a)
  back h (inr (inl p, q)) = inl (has_last found x which p)
  back h (inr (inr b, q)) = inr (b, h)

-- it isn't
pub none_found : (o : Head) (e : List Head) (found rest : List Which) (x : Which) → (IsHiddenInAll o e x → ⊥) → AreLeft o e found (x ∷ rest) → AreLeft o e found rest
none_found o e found rest x is left which = (to, λ h. back h ((left which).1 h)) where
  to : (Has found which ⊎ (Has rest which × IsHiddenInAll o e which)) → IsHiddenInAll o e which
  to (inl h) = (left which).0 (inl h)
  to (inr p) = p.1

  back : IsHiddenInAll o e which → (Has found which ⊎ (Has (x ∷ rest) which × IsHiddenInAll o e which)) → Has found which ⊎ (Has rest which × IsHiddenInAll o e which)
  back h (inl a) = inl a
  back h (inr (inl p, q)) = absurd (is (subst (IsHiddenInAll o e) (sym p) h))
  back h (inr (inr b, q)) = inr (b, h)
