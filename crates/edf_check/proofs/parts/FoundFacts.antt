-- What is found first in several exports is found in the first of them, or else in the others.
use Rattle.std.proofs.Common.{◌≡◌, ℕ, zero, suc, ◌+◌, ◌<◌, ◌≤◌, ◌⊎◌, ℤ, ◌≤ℤ◌, ◌<ℤ◌, nat_lt, Bool, true, false, if◌then◌else◌, List, ◌∷◌, Option, None, Some, MatchOption, slice_get, inl, inr, ⊎_elim, refl, sym, ap, arith, subst}
use Rattle.std.proofs.lemmas.Bool.Decides.{nat_tests}
use Rattle.edf_claim.specs.ClaimValues.{ClaimValue}
use Rattle.edf_fields.specs.declared.faults.fault.Fault.{Fault}
use Rattle.edf_header.specs.Heads.{Head}
use Rattle.edf_header.specs.HeadsReading.{head_of}
use Rattle.edf_heads.specs.HeadVerdicts.{HeadsAgree, IsHeadVerdict}
use Rattle.edf_stream.specs.Conforming.{Conforms}
use Rattle.edf_stream.specs.Faults.{file_fault}
use Rattle.edf_verdict.specs.declared.verdict.Verdict.{Verdict}
use Rattle.edf_stream.proofs.ForCallers.{conforming_is_faultless}
use Rattle.edf_heads.proofs.ForCallers.{one_head_verdict, agree-apart}
use Rattle.edf_check.specs.declared.parts.found.PartVerdict.{PartVerdict}
use Rattle.edf_check.specs.parts.PartsFirst.{IsPart, IsFirstFault, rank, GoesFirst, IsFirstHead}
use Rattle.edf_check.specs.parts.PartsFound.{AllAgree, AllConformAt, IsHeadsFound, earlier_of, first_of, end_before_part, IsFirstEarly, IsEarlyFound}
use Rattle.edf_pace.specs.walk.Shown.{begin_by, last_end_by}
use Rattle.edf_samples.proofs.ForCallers.{by_test}

first-is : (first : ℕ) (part : List ℕ) (parts : List (List ℕ)) → IsPart first (part ∷ parts) first 0 part
first-is first part parts = record { number = omega arith; there = refl }

next-is : (first : ℕ) (part : List ℕ) (parts : List (List ℕ)) (k at : ℕ) (file : List ℕ) → IsPart (first + 1) parts k at file → IsPart first (part ∷ parts) k (suc at) file
next-is first part parts k at file p = record { number = (let n = p.number in omega (arith, n)); there = p.there }

same-file : (x y : List ℕ) → Some x ≡ Some y → x ≡ y
same-file x y e = cc

-- ---- faults

pub fault_here : (first : ℕ) (part : List ℕ) (parts : List (List ℕ)) (fault : Fault) → file_fault part ≡ Some fault → IsFirstFault first (part ∷ parts) first fault
fault_here first part parts fault is = record { at = 0; file = part; is = first-is first part parts; fault_is = is; none_before = λ j other lt there. absurd (omega (arith, lt)) }

pub fault_later : (first : ℕ) (part : List ℕ) (parts : List (List ℕ)) (k : ℕ) (fault : Fault) → file_fault part ≡ None → IsFirstFault (first + 1) parts k fault → IsFirstFault first (part ∷ parts) k fault
fault_later first part parts k fault none f = record { at = suc f.at; file = f.file; is = next-is first part parts k f.at f.file f.is; fault_is = f.fault_is; none_before = before }
  where
    before : (j : ℕ) (other : List ℕ) → j < suc f.at → slice_get (part ∷ parts) j ≡ Some other → file_fault other ≡ None
    before zero other lt there = subst (λ x. file_fault x ≡ None) (same-file part other there) none
    before (suc j) other lt there = f.none_before j other (omega (arith, lt)) there

-- ---- headers

pub agree_more : (h : Head) (claim : ClaimValue) (part : List ℕ) (parts : List (List ℕ)) → HeadsAgree h (head_of part) claim → AllAgree h claim parts → AllAgree h claim (part ∷ parts)
agree_more h claim part parts a all zero file there = let P : List ℕ → Type 0 = λ x. HeadsAgree h (head_of x) claim in subst P (same-file part file there) a
agree_more h claim part parts a all (suc j) file there = all j file there

-- the header of the first part differs, and those of the others don't, or with no lower number
pub head_alone : (h : Head) (claim : ClaimValue) (first : ℕ) (part : List ℕ) (parts : List (List ℕ)) (v : Verdict) → IsHeadVerdict h (head_of part) claim v → AllAgree h claim parts → IsFirstHead h claim first (part ∷ parts) first v
head_alone h claim first part parts v is all = record { at = 0; file = part; is = first-is first part parts; differs = is; least = least }
  where
    least : (j : ℕ) (other : List ℕ) (w : Verdict) → slice_get (part ∷ parts) j ≡ Some other → IsHeadVerdict h (head_of other) claim w → GoesFirst (rank v) 0 (rank w) j
    least zero other w there d =
        let P : List ℕ → Type 0 = λ x. IsHeadVerdict h (head_of x) claim w in
        let same : v ≡ w = one_head_verdict h (head_of part) claim v w is (subst P (sym (same-file part other there)) d) in
        inr (ap rank same, omega arith)
    least (suc j) other w there d = absurd (agree-apart h (head_of other) claim w d (all j other there))

less-or-same : (a b : ℕ) → a ≤ b → (a < b) ⊎ (a ≡ b)
less-or-same zero zero p = inr refl
less-or-same zero (suc b) p = inl (omega arith)
less-or-same (suc a) zero p = absurd (omega (arith, p))
less-or-same (suc a) (suc b) p = ⊎_elim (λ lt. inl (omega (arith, lt))) (λ e. inr (ap suc e)) (less-or-same a b (omega (arith, p)))

-- a number that is no higher goes first before all that are the same as that or higher, and stand later
goes-first : (a b c i : ℕ) → a ≤ b → b ≡ c → GoesFirst a 0 c (suc i)
goes-first a b c i p q = ⊎_elim (λ lt. inl (omega (arith, lt, q))) (λ e. inr (omega (arith, e, q), omega arith)) (less-or-same a b p)

pub head_here : (h : Head) (claim : ClaimValue) (first : ℕ) (part : List ℕ) (parts : List (List ℕ)) (v : Verdict) (k : ℕ) (w : Verdict) → IsHeadVerdict h (head_of part) claim v → IsFirstHead h claim (first + 1) parts k w → rank v ≤ rank w
    → IsFirstHead h claim first (part ∷ parts) first v
head_here h claim first part parts v k w is f le = record { at = 0; file = part; is = first-is first part parts; differs = is; least = least }
  where
    least : (j : ℕ) (other : List ℕ) (x : Verdict) → slice_get (part ∷ parts) j ≡ Some other → IsHeadVerdict h (head_of other) claim x → GoesFirst (rank v) 0 (rank x) j
    least zero other x there d =
        let P : List ℕ → Type 0 = λ y. IsHeadVerdict h (head_of y) claim x in
        let same : v ≡ x = one_head_verdict h (head_of part) claim v x is (subst P (sym (same-file part other there)) d) in
        inr (ap rank same, omega arith)
    least (suc j) other x there d = ⊎_elim (λ lt. inl (omega (arith, lt, le))) (λ e. goes-first (rank v) (rank w) (rank x) j le e.0) (f.least j other x there d)

-- the first one is in the others: the header of the first part agrees, or differs with a higher number
pub head_later : (h : Head) (claim : ClaimValue) (first : ℕ) (part : List ℕ) (parts : List (List ℕ)) (k : ℕ) (w : Verdict) → ((v : Verdict) → IsHeadVerdict h (head_of part) claim v → rank w < rank v) → IsFirstHead h claim (first + 1) parts k w
    → IsFirstHead h claim first (part ∷ parts) k w
head_later h claim first part parts k w above f = record { at = suc f.at; file = f.file; is = next-is first part parts k f.at f.file f.is; differs = f.differs; least = least }
  where
    least : (j : ℕ) (other : List ℕ) (x : Verdict) → slice_get (part ∷ parts) j ≡ Some other → IsHeadVerdict h (head_of other) claim x → GoesFirst (rank w) (suc f.at) (rank x) j
    least zero other x there d = let P : List ℕ → Type 0 = λ y. IsHeadVerdict h (head_of y) claim x in inl (above x (subst P (sym (same-file part other there)) d))
    least (suc j) other x there d = ⊎_elim (λ lt. inl lt) (λ e. inr (e.0, (let l = e.1 in omega (arith, l)))) (f.least j other x there d)

-- ---- the order

pub early_here : (by t : ℤ) (first : ℕ) (part : List ℕ) (parts : List (List ℕ)) → begin_by part (head_of part) by 0 <ℤ t → IsFirstEarly by t first (part ∷ parts) first
early_here by t first part parts early = record { at = 0; file = part; is = first-is first part parts; early = early; none_before = λ j other lt there. absurd (omega (arith, lt)) }

pub early_later : (by t : ℤ) (first : ℕ) (part : List ℕ) (parts : List (List ℕ)) (k : ℕ) → t ≤ℤ begin_by part (head_of part) by 0 → IsFirstEarly by (last_end_by part (head_of part) by) (first + 1) parts k → IsFirstEarly by t first (part ∷ parts) k
early_later by t first part parts k from f = record { at = suc f.at; file = f.file; is = next-is first part parts k f.at f.file f.is; early = f.early; none_before = before }
  where
    before : (j : ℕ) (other : List ℕ) → j < suc f.at → slice_get (part ∷ parts) j ≡ Some other → end_before_part by t (part ∷ parts) j ≤ℤ begin_by other (head_of other) by 0
    before zero other lt there = subst (λ x. t ≤ℤ begin_by x (head_of x) by 0) (same-file part other there) from
    before (suc j) other lt there = f.none_before j other (omega (arith, lt)) there

-- ---- both together

pub conform_more : (part : List ℕ) (parts : List (List ℕ)) → Conforms part (head_of part) → AllConformAt parts → AllConformAt (part ∷ parts)
conform_more part parts c all zero file there = subst (λ x. Conforms x (head_of x)) (same-file part file there) c
conform_more part parts c all (suc j) file there = all j file there

-- a part whose header differs, and those behind it
pub head_more : (h : Head) (claim : ClaimValue) (first : ℕ) (part : List ℕ) (parts : List (List ℕ)) (v : Verdict) (later : Option PartVerdict) → IsHeadVerdict h (head_of part) claim v → IsHeadsFound h claim (first + 1) parts later
    → IsFirstHead h claim first (part ∷ parts) (earlier_of first v later).part (earlier_of first v later).verdict
head_more h claim first part parts v None is all = head_alone h claim first part parts v is all
head_more h claim first part parts v (Some p) is rest =
    let P : PartVerdict → Type 0 = λ x. IsFirstHead h claim first (part ∷ parts) x.part x.verdict in
    by_test (nat_lt (rank p.verdict) (rank v)) (λ b. P (if b then p else record { part = first; verdict = v }))
    (λ e. head_later h claim first part parts p.part p.verdict (λ w d. let same = ap rank (one_head_verdict h (head_of part) claim v w is d) in let lt : rank p.verdict < rank v = grind (arith, nat_tests, e) in omega (arith, lt, same)) rest)
    (λ e. head_here h claim first part parts v p.part p.verdict is rest (let le : rank v ≤ rank p.verdict = grind (arith, nat_tests, e) in le))

-- the first difference of headers, of one part and of those behind it
pub heads_more : (h : Head) (claim : ClaimValue) (first : ℕ) (part : List ℕ) (parts : List (List ℕ)) (mine : Option Verdict) (later : Option PartVerdict) → MatchOption mine (HeadsAgree h (head_of part) claim) (IsHeadVerdict h (head_of part) claim)
    → IsHeadsFound h claim (first + 1) parts later → IsHeadsFound h claim first (part ∷ parts) (first_of first mine later)
heads_more h claim first part parts None None agree all = agree_more h claim part parts agree all
heads_more h claim first part parts None (Some p) agree rest = head_later h claim first part parts p.part p.verdict (λ v d. absurd (agree-apart h (head_of part) claim v d agree)) rest
heads_more h claim first part parts (Some v) later is rest = head_more h claim first part parts v later is rest

-- the first early part, of one part and of those behind it
pub early_more : (by t : ℤ) (first : ℕ) (part : List ℕ) (parts : List (List ℕ)) (is_early : Bool) (later : Option ℕ) → (is_early ≡ true → begin_by part (head_of part) by 0 <ℤ t) → (is_early ≡ false → t ≤ℤ begin_by part (head_of part) by 0)
    → IsEarlyFound by (last_end_by part (head_of part) by) (first + 1) parts later → IsEarlyFound by t first (part ∷ parts) (if is_early then Some first else later)
early_more by t first part parts true later early from rest = early_here by t first part parts (early refl)
early_more by t first part parts false None early from rest = (from refl, rest)
early_more by t first part parts false (Some k) early from rest = early_later by t first part parts k (from refl) rest

pub faultless_part : (part : List ℕ) → Conforms part (head_of part) → file_fault part ≡ None
faultless_part part c = (conforming_is_faultless part).1 (head_of part, c)
