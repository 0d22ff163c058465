-- Two differences of one kind are the same; and kinds, one behind the other.
use Rattle.std.proofs.Common.{◌≡◌, ℕ, List, [], ◌∷◌, ◌⊎◌, inl, inr, refl, sym, ap, ◌∙◌, subst}
use Rattle.edf_claim.specs.ClaimValues.{ClaimValue}
use Rattle.edf_fields.specs.declared.fields.which.Which.{Which}
use Rattle.edf_header.specs.Heads.{Head}
use Rattle.edf_verdict.specs.declared.verdict.TextField.{TextField}
use Rattle.edf_verdict.specs.declared.verdict.TextField.TheVariants.{Transducer, Prefilter}
use Rattle.edf_verdict.specs.declared.verdict.SubfieldMismatch.{SubfieldMismatch}
use Rattle.edf_verdict.specs.declared.verdict.SubfieldMismatch.TheVariants.{NotX, Changed}
use Rattle.edf_heads.specs.differences.ChannelDifferences.{HasAll, HasNoChannel, AreUnlike}
use Rattle.edf_heads.specs.Firsts.{IsFirstWith}
use Rattle.edf_heads.specs.Subfields.{IsAsClaimed}
use Rattle.edf_fields.specs.fields.SubfieldNamesReading.{all_subfields}
use Rattle.edf_heads.specs.differences.SubfieldDifference.{IsMismatch, IsSubfieldDifference}
use Rattle.edf_heads.specs.ChannelTexts.{HaveSameTexts}
use Rattle.edf_heads.specs.differences.TextDifference.{HaveSameText, IsFirstText, IsTextDifference}
use Rattle.edf_heads.proofs.ContentFacts.{alike-differ}
use Rattle.edf_heads.proofs.ListFacts.{first-has}

-- the first of a list of which something holds is one
pub one-of-first : {X : Type 0} (Holds : X → Type 0) (xs : List X) (x y : X) → IsFirstWith Holds xs x → IsFirstWith Holds xs y → x ≡ y
one-of-first Holds [] x y p q = absurd p
one-of-first Holds (z ∷ zs) x y (inl p) (inl q) = sym p.0 ∙ q.0
one-of-first Holds (z ∷ zs) x y (inl p) (inr q) = absurd (q.0 p.1)
one-of-first Holds (z ∷ zs) x y (inr p) (inl q) = absurd (p.0 q.1)
one-of-first Holds (z ∷ zs) x y (inr p) (inr q) = one-of-first Holds zs x y p.1 q.1

-- ---- kinds of values, one behind the other

-- there is one value of a kind at most
abbrev pub One : {X : Type 0} → (X → Type 0) → Type 0
One {X} A = (x y : X) → A x → A y → x ≡ y

-- the value is made of something of which this holds
abbrev pub Made : {X Y : Type 0} → (Y → X) → (Y → Type 0) → X → Type 0
Made {X} {Y} make P x = (y : Y) × (x ≡ make y) × P y

-- it is of the first kind, or that kind doesn't apply and it is of those behind
abbrev pub Else : {X : Type 0} → (X → Type 0) → Type 0 → (X → Type 0) → X → Type 0
Else A P B x = A x ⊎ (P × B x)

pub one-made : {X Y : Type 0} {make : Y → X} {P : Y → Type 0} → ((y z : Y) → P y → P z → y ≡ z) → One (Made make P)
one-made {make = make} one x w (y, e, p) (z, f, q) = e ∙ ap make (one y z p q) ∙ sym f

pub either-one : {X : Type 0} {A B : X → Type 0} {P : Type 0} → One A → ((x : X) → A x → P → ⊥) → (P → One B) → One (Else A P B)
either-one a apart b x y (inl p) (inl q) = a x y p q
either-one a apart b x y (inl p) (inr q) = absurd (apart x p q.0)
either-one a apart b x y (inr p) (inl q) = absurd (apart y q p.0)
either-one a apart b x y (inr p) (inr q) = b p.0 x y p.1 q.1

-- ---- of each kind there is one

-- of the texts of a label one is the first that differs
one-field : (o e : Head) (l : List ℕ) (p q : TextField) → IsFirstText o e l p → IsFirstText o e l q → p ≡ q
one-field o e l Transducer Transducer h i = refl
one-field o e l Transducer Prefilter h i = absurd (alike-differ (HaveSameText Transducer) o e l i.0 h)
one-field o e l Prefilter Transducer h i = absurd (alike-differ (HaveSameText Transducer) o e l h.0 i)
one-field o e l Prefilter Prefilter h i = refl

pub one-text : (o e : Head) (c : ClaimValue) (d f : List ℕ × TextField) → IsTextDifference o e c d.0 d.1 → IsTextDifference o e c f.0 f.1 → d ≡ f
one-text o e c (l, p) (m, q) a b =
    let label : l ≡ m = one-of-first (AreUnlike HaveSameTexts o e) c.channels l m a.channel b.channel in
    let field : p ≡ q = one-field o e m p q (subst (λ k. IsFirstText o e k p) label a.text) b.text in
    cc

pub one-side : (c : ClaimValue) (which : Which) (p q : SubfieldMismatch) → IsMismatch c which p → IsMismatch c which q → p ≡ q
one-side c which NotX NotX h i = refl
one-side c which NotX Changed h i = absurd (i h)
one-side c which Changed NotX h i = absurd (h i)
one-side c which Changed Changed h i = refl

pub one-subfield : (o e : Head) (c : ClaimValue) (d f : Which × SubfieldMismatch) → IsSubfieldDifference o e c d.0 d.1 → IsSubfieldDifference o e c f.0 f.1 → d ≡ f
one-subfield o e c (v, p) (w, q) a b =
    let which : v ≡ w = one-of-first (λ u. IsAsClaimed o e c u → ⊥) all_subfields v w a.subfield b.subfield in
    let side : p ≡ q = one-side c w p q (subst (λ u. IsMismatch c u p) which a.mismatch_is) b.mismatch_is in
    cc

-- a first one doesn't apply where all have what it lacks
pub first-apart : (h : Head) (labels : List (List ℕ)) (l : List ℕ) → IsFirstWith (HasNoChannel h) labels l → HasAll h labels → ⊥
first-apart h labels l first all = let r = first-has (HasNoChannel h) labels l first in r.1 (all l r.0)
