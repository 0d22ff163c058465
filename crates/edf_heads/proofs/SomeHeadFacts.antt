-- What can be decided of two sound headers, and the first of what isn't so.
use Rattle.std.proofs.Common.{◌≡◌, ◌↔◌, ℕ, Bool, true, false, List, [], ◌∷◌, Option, Some, None, MatchOption, ◌⊎◌, inl, inr, ⊎_elim, refl, sym, ap, ◌∙◌, subst, arith}
use Rattle.std.specs.List.{All, list_all}
use Rattle.std.specs.Str.{bytes_eq}
use Rattle.std.proofs.lemmas.Bool.{cases_lt}
use Rattle.std.proofs.lemmas.Slice.Eq.{bytes_eq-Decides}
use Rattle.edf_claim.specs.ClaimValues.{ClaimValue}
use Rattle.edf_fields.specs.declared.fields.which.Which.{Which}
use Rattle.edf_fields.specs.declared.fields.which.Which.TheVariants.{PatientExtras, Date, RecordingExtras}
use Rattle.edf_fields.specs.Lists.{Has}
use Rattle.edf_fields.specs.fields.SubfieldNames.{name_of}
use Rattle.edf_fields.proofs.ForCallers.{same-name}
use Rattle.edf_header.specs.Heads.{Head}
use Rattle.edf_heads.specs.Comparisons.{is_x, are_same, IsAnonymous, IsUnchanged}
use Rattle.edf_heads.specs.Firsts.{IsFirstWith}
use Rattle.edf_heads.specs.Labels.{IsNotAbove}
use Rattle.edf_heads.specs.Subfields.{IsX, IsAsClaimed}
use Rattle.edf_heads.proofs.SubfieldFacts.{all-x, x-all, same-is, same-self, claimed_anonymous, claimed_unchanged, not_anonymous, not_unchanged}

-- ---- what a test decides

-- it holds, or it doesn't
abbrev pub Decided : Type 0 → Type 0
Decided P = P ⊎ (P → ⊥)

pub tested : {P : Type 0} (b : Bool) → (b ≡ true → P) → (P → b ≡ true) → Decided P
tested true so back = inl (so refl)
tested false so back = inr (λ p. let g : false ≡ true = back p in cc)

-- what is said of something that is found, or of nothing
pub found-or-not : {X : Type 0} (Nothing : Type 0) (P : X → Type 0) (o : Option X) → MatchOption o Nothing P → Nothing ⊎ ((x : X) × P x)
found-or-not Nothing P None h = inl h
found-or-not Nothing P (Some x) h = inr (x, h)

-- all subfields are as claimed, or there is a first that isn't
pub all-or-first : {X : Type 0} (P : X → Type 0) → ((x : X) → Decided (P x)) → (xs : List X) → ((x : X) → Has xs x → P x) ⊎ ((x : X) × IsFirstWith (λ x. P x → ⊥) xs x)
all-or-first P each [] = inl (λ x h. absurd h)
all-or-first {X} P each (y ∷ ys) = cases (each y) (all-or-first P each ys)
  where
    cases : Decided (P y) → ((x : X) → Has ys x → P x) ⊎ ((x : X) × IsFirstWith (λ x. P x → ⊥) ys x) → ((x : X) → Has (y ∷ ys) x → P x) ⊎ ((x : X) × IsFirstWith (λ x. P x → ⊥) (y ∷ ys) x)
    cases (inr n) r = inr (y, inl (refl, n))
    cases (inl p) (inl all) = inl (λ x h. ⊎_elim (λ e. subst P e p) (λ i. all x i) h)
    cases (inl p) (inr r) = inr (r.0, inr ((λ n. n p), r.1))

-- ---- the order of labels

pub not-above-self : (l : List ℕ) → IsNotAbove l l
not-above-self [] = tt
not-above-self (x ∷ l) = inr (refl, not-above-self l)

pub not-above-behind : (a b c : List ℕ) → IsNotAbove a b → IsNotAbove b c → IsNotAbove a c
not-above-behind [] b c p q = tt
not-above-behind (x ∷ a) [] c p q = absurd p
not-above-behind (x ∷ a) (y ∷ b) [] p q = absurd q
not-above-behind (x ∷ a) (y ∷ b) (z ∷ c) (inl p) (inl q) = inl (omega (arith, p, q))
not-above-behind (x ∷ a) (y ∷ b) (z ∷ c) (inl p) (inr q) = inl (let e = q.0 in omega (arith, p, e))
not-above-behind (x ∷ a) (y ∷ b) (z ∷ c) (inr p) (inl q) = inl (let e = p.0 in omega (arith, e, q))
not-above-behind (x ∷ a) (y ∷ b) (z ∷ c) (inr p) (inr q) = inr (p.0 ∙ q.0, not-above-behind a b c p.1 q.1)

pub one-not-above : (a b : List ℕ) → IsNotAbove a b ⊎ IsNotAbove b a
one-not-above [] b = inl tt
one-not-above (x ∷ a) [] = inr tt
one-not-above (x ∷ a) (y ∷ b) =
    elim (cases_lt x y) [
      | inl lt ↦ inl (inl lt)
      | inr le ↦ elim (cases_lt y x) [
        | inl lt ↦ inr (inl lt)
        | inr ge ↦ ⊎_elim (λ p. inl (inr (omega (arith, le, ge), p))) (λ p. inr (inr (omega (arith, le, ge), p))) (one-not-above a b)
      ]
    ]

-- of a list none is so, or one is that isn't above the others
abbrev pub LeastOrNone : (List ℕ → Type 0) → List (List ℕ) → Type 0
LeastOrNone P ls =
    ((l : List ℕ) → Has ls l → P l → ⊥) ⊎ ((l : List ℕ) × Has ls l × P l × ((m : List ℕ) → Has ls m → P m → IsNotAbove l m))

pub least-or-none : (P : List ℕ → Type 0) → ((l : List ℕ) → Decided (P l)) → (ls : List (List ℕ)) → LeastOrNone P ls
least-or-none P each [] = inl (λ l h p. h)
least-or-none P each (x ∷ ls) = cases (each x) (least-or-none P each ls)
  where
    nearer : P x → (r : (l : List ℕ) × Has ls l × P l × ((m : List ℕ) → Has ls m → P m → IsNotAbove l m)) → IsNotAbove x r.0 ⊎ IsNotAbove r.0 x → LeastOrNone P (x ∷ ls)
    nearer p r (inl le) = inr (x, inl refl, p, λ m h q. ⊎_elim (λ e. subst (IsNotAbove x) e (not-above-self x)) (λ i. not-above-behind x r.0 m le (r.3 m i q)) h)
    nearer p r (inr le) = inr (r.0, inr r.1, r.2, λ m h q. ⊎_elim (λ e. subst (IsNotAbove r.0) e le) (λ i. r.3 m i q) h)

    cases : Decided (P x) → LeastOrNone P ls → LeastOrNone P (x ∷ ls)
    cases (inl p) (inl none) = inr (x, inl refl, p, λ m h q. ⊎_elim (λ e. subst (IsNotAbove x) e (not-above-self x)) (λ i. absurd (none m i q)) h)
    cases (inl p) (inr r) = nearer p r (one-not-above x r.0)
    cases (inr n) (inl none) = inl (λ l h p. ⊎_elim (λ e. n (subst P (sym e) p)) (λ i. none l i p) h)
    cases (inr n) (inr r) = inr (r.0, inr r.1, r.2, λ m h q. ⊎_elim (λ e. absurd (n (subst P (sym e) q))) (λ i. r.3 m i q) h)

-- ---- subfields

pub has-which : (ws : List Which) (w : Which) → Decided (Has ws w)
has-which [] w = inr (λ h. h)
has-which (v ∷ ws) w =
    cases (tested (bytes_eq (name_of v) (name_of w)) (λ t. same-name v w ((bytes_eq-Decides (name_of v) (name_of w)).0 t)) (λ e. (bytes_eq-Decides (name_of v) (name_of w)).1 (ap name_of e))) (has-which ws w)
  where
    cases : Decided (v ≡ w) → Decided (Has ws w) → Decided (Has (v ∷ ws) w)
    cases (inl e) r = inl (inl e)
    cases (inr n) (inl h) = inl (inr h)
    cases (inr n) (inr m) = inr (λ h. ⊎_elim n m h)

same-text : (t u : List ℕ) → Decided (t ≡ u)
same-text t u = tested (bytes_eq t u) (bytes_eq-Decides t u).0 (bytes_eq-Decides t u).1

same-texts : (ts us : List (List ℕ)) → Decided (ts ≡ us)
same-texts ts us = tested (are_same ts us) (same-is ts us) (λ h. subst (λ xs. are_same ts xs ≡ true) h (same-self ts))

all-are-x : (ts : List (List ℕ)) → Decided (All IsX ts)
all-are-x ts = tested (list_all is_x ts) (all-x ts) (x-all ts)

is-anonymous : (h : Head) (w : Which) → Decided (IsAnonymous h w)
is-anonymous h PatientExtras = all-are-x h.patient.extras
is-anonymous h RecordingExtras = all-are-x h.recording.extras
is-anonymous h w = same-text _ _

both-or-none : {P Q : Type 0} → Decided P → Decided Q → Decided (P ↔ Q)
both-or-none (inl p) (inl q) = inl (λ h. q, λ h. p)
both-or-none (inl p) (inr n) = inr (λ both. n (both.0 p))
both-or-none (inr n) (inl q) = inr (λ both. n (both.1 q))
both-or-none (inr n) (inr m) = inl (λ h. absurd (n h), λ h. absurd (m h))

is-unchanged : (o e : Head) (w : Which) → Decided (IsUnchanged o e w)
is-unchanged o e PatientExtras = same-texts _ _
is-unchanged o e Date = both-or-none (same-text e.recording.date _) (same-text o.recording.date _)
is-unchanged o e RecordingExtras = same-texts _ _
is-unchanged o e w = same-text _ _

pub is-as-claimed : (o e : Head) (c : ClaimValue) (w : Which) → Decided (IsAsClaimed o e c w)
is-as-claimed o e c w = cases (has-which c.anonymous w)
  where
    cases : Decided (Has c.anonymous w) → Decided (IsAsClaimed o e c w)
    cases (inl there) = ⊎_elim (λ h. inl (claimed_anonymous o e c w there h)) (λ n. inr (not_anonymous o e c w there n)) (is-anonymous e w)
    cases (inr out) = ⊎_elim (λ h. inl (claimed_unchanged o e c w out h)) (λ n. inr (not_unchanged o e c w out n)) (is-unchanged o e w)
