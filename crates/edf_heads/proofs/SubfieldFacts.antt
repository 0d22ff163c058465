-- The subfields of two headers, in words.
use Rattle.std.proofs.Common.{◌≡◌, ◌↔◌, ℕ, Bool, true, false, cond, IsTrue, List, [], ◌∷◌, drop, length, ◌<◌, ◌≤◌, ◌+◌, get_or, Option, Some, None, MatchOption, inl, inr, ⊎_elim, refl, sym, ap, ◌∙◌, subst, add-one}
use Rattle.std.specs.List.{All, list_all}
use Rattle.std.specs.Str.{bytes_eq}
use Rattle.std.proofs.Math.Seq.{drop-cons}
use Rattle.std.proofs.lemmas.List.{drop_all}
use Rattle.std.proofs.lemmas.List.Elements.{All-nil, All-cons, All-head, All-tail}
use Rattle.std.proofs.lemmas.Slice.Eq.{bytes_eq-Decides}
use Rattle.edf_fields.specs.Lists.{Has}
use Rattle.edf_fields.proofs.ForCallers.{and-true, both-true, which-read}
use Rattle.edf_header.specs.Heads.{Head}
use Rattle.edf_claim.specs.ClaimValues.{ClaimValue}
use Rattle.edf_fields.specs.declared.fields.which.Which.{Which}
use Rattle.edf_fields.specs.declared.fields.which.Which.TheVariants.{Code}
use Rattle.edf_heads.specs.Comparisons.{is_x, are_same, IsAnonymous, IsUnchanged, IsFoundAmong}
use Rattle.edf_heads.specs.Subfields.{IsX, ByClaim, IsAsClaimed}
use Rattle.edf_fields.specs.fields.SubfieldNames.{name_of}
use Rattle.edf_fields.specs.fields.SubfieldNamesReading.{all_subfields, named_in, which_of}
use Rattle.edf_heads.specs.differences.SubfieldDifference.{IsMismatch, IsSubfieldDifference}
use Rattle.edf_heads.specs.declared.subfields.SubfieldDifference.{SubfieldDifference}
use Rattle.edf_verdict.specs.declared.verdict.SubfieldMismatch.{SubfieldMismatch}

-- ---- the tests

pub x_tested : (b : Bool) (t : List ℕ) → b ≡ is_x t → IsTrue b ↔ IsX t
x_tested b t e = (λ h. (bytes_eq-Decides t _).0 (sym e ∙ h), λ h. e ∙ (bytes_eq-Decides t _).1 h)

pub all-x : (ts : List (List ℕ)) → list_all is_x ts ≡ true → All IsX ts
all-x [] h = All-nil IsX
all-x (u ∷ us) h =
    let both = and-true (is_x u) (list_all is_x us) h in
    All-cons IsX u us ((bytes_eq-Decides u _).0 both.0) (all-x us both.1)

pub x-all : (ts : List (List ℕ)) → All IsX ts → list_all is_x ts ≡ true
x-all [] h = refl
x-all (u ∷ us) h = both-true (is_x u) (list_all is_x us) ((bytes_eq-Decides u _).1 (All-head IsX u us h)) (x-all us (All-tail IsX u us h))

pub all_x_tested : (b : Bool) (ts : List (List ℕ)) → b ≡ list_all is_x ts → IsTrue b ↔ All IsX ts
all_x_tested b ts e = (λ h. all-x ts (sym e ∙ h), λ h. e ∙ x-all ts h)

pub same-is : (ts us : List (List ℕ)) → are_same ts us ≡ true → ts ≡ us
same-is [] [] h = refl
same-is [] (u ∷ us) h = absurd (let f : false ≡ true = h in cc)
same-is (t ∷ ts) [] h = absurd (let f : false ≡ true = h in cc)
same-is (t ∷ ts) (u ∷ us) h =
    let both = and-true (bytes_eq t u) (are_same ts us) h in
    ap (λ x. x ∷ ts) ((bytes_eq-Decides t u).0 both.0) ∙ ap (λ xs. u ∷ xs) (same-is ts us both.1)

pub same-self : (ts : List (List ℕ)) → are_same ts ts ≡ true
same-self [] = refl
same-self (t ∷ ts) = both-true (bytes_eq t t) (are_same ts ts) ((bytes_eq-Decides t t).1 refl) (same-self ts)

pub same_tested : (b : Bool) (ts us : List (List ℕ)) → b ≡ are_same ts us → IsTrue b ↔ (ts ≡ us)
same_tested b ts us e = (λ h. same-is ts us (sym e ∙ h), λ h. e ∙ subst (λ xs. are_same ts xs ≡ true) h (same-self ts))

-- ---- a subfield is as claimed

-- it is `X` where it is claimed anonymous, and else the original's
pub to-claimed : (o e : Head) (claim : ClaimValue) (w : Which) → ByClaim claim w (IsAnonymous e w) (IsUnchanged o e w) → IsAsClaimed o e claim w
to-claimed o e claim Code h = h
to-claimed o e claim w h = h

pub of-claimed : (o e : Head) (claim : ClaimValue) (w : Which) → IsAsClaimed o e claim w → ByClaim claim w (IsAnonymous e w) (IsUnchanged o e w)
of-claimed o e claim Code h = h
of-claimed o e claim w h = h

pub claimed_anonymous : (o e : Head) (claim : ClaimValue) (w : Which) → Has claim.anonymous w → IsAnonymous e w → IsAsClaimed o e claim w
claimed_anonymous o e claim w there h = to-claimed o e claim w (record { claimed = λ i. h; unclaimed = λ out. absurd (out there) })

pub claimed_unchanged : (o e : Head) (claim : ClaimValue) (w : Which) → (Has claim.anonymous w → ⊥) → IsUnchanged o e w → IsAsClaimed o e claim w
claimed_unchanged o e claim w out h = to-claimed o e claim w (record { claimed = λ i. absurd (out i); unclaimed = λ i. h })

pub not_anonymous : (o e : Head) (claim : ClaimValue) (w : Which) → Has claim.anonymous w → (IsAnonymous e w → ⊥) → IsAsClaimed o e claim w → ⊥
not_anonymous o e claim w there other h = other ((of-claimed o e claim w h).claimed there)

pub not_unchanged : (o e : Head) (claim : ClaimValue) (w : Which) → (Has claim.anonymous w → ⊥) → (IsUnchanged o e w → ⊥) → IsAsClaimed o e claim w → ⊥
not_unchanged o e claim w out other h = other ((of-claimed o e claim w h).unclaimed out)

-- ---- the first that isn't

-- what stands at a place of a list, and what stands behind it
cut-at : (ws : List Which) (i : ℕ) (d : Which) → i < length ws → drop i ws ≡ get_or ws i d ∷ drop (i + 1) ws
cut-at ws i d lt = drop-cons ws i d lt ∙ ap (λ k. get_or ws i d ∷ drop k ws) (sym (add-one i))

pub found_here : (o e : Head) (claim : ClaimValue) (ws : List Which) (i : ℕ) (d w : Which) (mismatch : SubfieldMismatch) → i < length ws → get_or ws i d ≡ w → (IsAsClaimed o e claim w → ⊥) → IsMismatch claim w mismatch
    → IsFoundAmong o e claim (drop i ws) (Some (record { which = w; mismatch = mismatch }))
found_here o e claim ws i d w mismatch lt here other is =
    subst (λ (xs : List Which). IsFoundAmong o e claim xs (Some (record { which = w; mismatch = mismatch }))) (sym (cut-at ws i d lt))
    (inl (here, subst (λ (v : Which). IsAsClaimed o e claim v → ⊥) (sym here) other), is)

pub found_later : (o e : Head) (claim : ClaimValue) (ws : List Which) (i : ℕ) (d w : Which) (r : Option SubfieldDifference) → i < length ws → get_or ws i d ≡ w → IsAsClaimed o e claim w
    → IsFoundAmong o e claim (drop (i + 1) ws) r → IsFoundAmong o e claim (drop i ws) r
found_later o e claim ws i d w r lt here same rest =
    subst (λ (xs : List Which). IsFoundAmong o e claim xs r) (sym (cut-at ws i d lt)) (later r rest)
  where
    at : IsAsClaimed o e claim (get_or ws i d)
    at = subst (λ (v : Which). IsAsClaimed o e claim v) (sym here) same

    later : (r : Option SubfieldDifference) → IsFoundAmong o e claim (drop (i + 1) ws) r → IsFoundAmong o e claim (get_or ws i d ∷ drop (i + 1) ws) r
    later None h = λ v there. ⊎_elim (λ q. subst (λ (u : Which). IsAsClaimed o e claim u) q at) (λ j. h v j) there
    later (Some x) h = (inr ((λ other. other at), h.0), h.1)

pub found_none : (o e : Head) (claim : ClaimValue) (ws : List Which) (i : ℕ) → length ws ≤ i → IsFoundAmong o e claim (drop i ws) None
found_none o e claim ws i le = subst (λ (xs : List Which). IsFoundAmong o e claim xs None) (sym (drop_all i ws le)) (λ w h. absurd h)

-- a subfield that is found by its name among some is one of them
named-has : (ws : List Which) (name : List ℕ) (w : Which) → named_in ws name ≡ Some w → Has ws w
named-has [] name w e = absurd (let i : None ≡ Some w = e in cc)
named-has (v ∷ ws) name w e = named-case (bytes_eq (name_of v) name) (named-has ws name w) e
  where
    named-case : (b : Bool) → (named_in ws name ≡ Some w → Has ws w) → cond b (Some v) (named_in ws name) ≡ Some w → Has (v ∷ ws) w
    named-case true more i = inl (let f : Some v ≡ Some w = i in cc)
    named-case false more i = inr (more i)

-- every subfield is one of all
pub has-all : (w : Which) → Has all_subfields w
unfolding which_of
has-all w = named-has all_subfields (name_of w) w (which-read w)

pub subfields_said : (o e : Head) (claim : ClaimValue) (r : Option SubfieldDifference) → IsFoundAmong o e claim all_subfields r
    → MatchOption r ((w : Which) → IsAsClaimed o e claim w) (λ d. IsSubfieldDifference o e claim d.which d.mismatch)
subfields_said o e claim None h = λ w. h w (has-all w)
subfields_said o e claim (Some d) h = record { subfield = h.0; mismatch_is = h.1 }
