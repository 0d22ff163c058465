-- What two headers look like beside one another.
use Rattle.std.proofs.Common.{◌≡◌, ◌≢◌, ◌↔◌, ◌&&◌, inl, inr, suc, Bool, true, false, IsTrue, List, [], ◌∷◌, length, refl, sym, subst, ap}
use Rattle.edf_fields.specs.declared.fields.which.Which.{Which}
use Rattle.edf_fields.specs.Lists.{Has}
use Rattle.edf_header.specs.Heads.{Head, SignalHead}
use Rattle.edf_heads.specs.Comparisons.{IsUnchanged}
use Rattle.edf_findings.specs.Likeness.{AreUnchanged, all_alike}

and_false : (b : Bool) → false ≡ (b && false)
and_false true = refl
and_false false = refl

-- where they aren't as many, not all are alike
pub others_unlike : (alike : SignalHead → SignalHead → Bool) (xs ys : List SignalHead) → length xs ≢ length ys → false ≡ all_alike alike xs ys
others_unlike alike [] [] others = absurd (others refl)
others_unlike alike [] (y ∷ ys) others = refl
others_unlike alike (x ∷ xs) [] others = refl
others_unlike alike (x ∷ xs) (y ∷ ys) others =
    let rest : false ≡ all_alike alike xs ys = others_unlike alike xs ys (λ same. others (ap suc same)) in
    rw (sym rest) (and_false (alike x y))

one_of : (o e : Head) (whiches : List Which) (which : Which) → AreUnchanged o e whiches → Has whiches which → IsUnchanged o e which
one_of o e [] which are has = absurd has
one_of o e (w ∷ ws) which are (inl same) = subst (IsUnchanged o e) same are.0
one_of o e (w ∷ ws) which are (inr has) = one_of o e ws which are.1 has

each_of : (o e : Head) (whiches : List Which) → ((which : Which) → IsUnchanged o e which) → AreUnchanged o e whiches
each_of o e [] all = tt
each_of o e (w ∷ ws) all = (all w, each_of o e ws all)

-- where these are all, each is the same
pub all_unchanged : (o e : Head) (b : Bool) (whiches : List Which) → ((which : Which) → Has whiches which) → IsTrue b ↔ AreUnchanged o e whiches → IsTrue b ↔ ((which : Which) → IsUnchanged o e which)
all_unchanged o e b whiches has is = (λ yes which. one_of o e whiches which (is.0 yes) (has which), λ all. is.1 (each_of o e whiches all))
