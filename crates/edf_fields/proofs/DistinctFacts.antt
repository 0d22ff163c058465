-- Whether a text stands twice in a list: in another order of it, and in a sorted list.
use Rattle.std.proofs.Common.{◌≡◌, ◌↔◌, ℕ, zero, suc, ◌+◌, ◌-◌, ◌<◌, ◌≤◌, Bool, true, false, cond, not, ◌&&◌, ◌||◌, List, [], ◌∷◌, map, length, drop, get_or, Bor, Ordering, Less, Equal, Greater, refl, sym, ap, ◌∙◌, arith}
use Rattle.std.specs.Cmp.Lexicographic.{slice_cmp}
use Rattle.std.specs.List.{sum_by}
use Rattle.std.specs.List.Sorted.{IsSorted, IsPermutation}
use Rattle.std.specs.Ordering.{nat_cmp, is_eq, is_lt, ordering_reverse}
use Rattle.std.specs.Str.{bytes_eq}
use Rattle.std.proofs.lemmas.Bool.{or_from}
use Rattle.std.proofs.lemmas.Cmp.{nat_list_cmp_total}
use Rattle.std.proofs.lemmas.List.Sorted.{IsPermutation-map, sum_by-IsPermutation, sorted_far, ranks_by}
use Rattle.std.proofs.lemmas.List.Sums.{sum_by-cons}
use Rattle.std.proofs.lemmas.Map.Text.{is_eq-slice_cmp}
use Rattle.std.proofs.lemmas.Slice.Eq.{bytes_eq-Decides}
use Rattle.edf_fields.specs.Lists.{is_one_of}
use Rattle.edf_fields.specs.Distinct.{AreDistinct, are_distinct}
use Rattle.edf_fields.proofs.BoolFacts.{and-true, both-true, not-true}
use Rattle.edf_fields.proofs.ListFacts.{distinct-tested, distinct-passes}

-- how often the text stands in the list
abbrev one : Bool → ℕ
one b = cond b 1 0

abbrev times : List ℕ → List (List ℕ) → ℕ
times t ts = sum_by (λ u. one (bytes_eq u t)) ts

times-cons : (t u : List ℕ) (ts : List (List ℕ)) → times t (u ∷ ts) ≡ one (bytes_eq u t) + times t ts
times-cons t u ts = sum_by-cons (λ v. one (bytes_eq v t)) u ts

-- a text that stands nowhere stands there no time
nowhere : (t : List ℕ) (ts : List (List ℕ)) → is_one_of ts t ≡ false → times t ts ≡ 0
nowhere t [] h = refl
nowhere t (u ∷ ts) h = times-cons t u ts ∙ nowhere-case (bytes_eq u t) h (λ q. nowhere t ts q)
  where
    nowhere-case : (b : Bool) → (b || is_one_of ts t) ≡ false → (is_one_of ts t ≡ false → times t ts ≡ 0) → one b + times t ts ≡ 0
    nowhere-case true h rest = absurd (let z : true ≡ false = h in cc)
    nowhere-case false h rest = omega (arith, rest h)

no-time : (t : List ℕ) (ts : List (List ℕ)) → times t ts ≡ 0 → is_one_of ts t ≡ false
no-time t [] h = refl
no-time t (u ∷ ts) h = no-case (bytes_eq u t) (sym (times-cons t u ts) ∙ h) (λ q. no-time t ts q)
  where
    no-case : (b : Bool) → one b + times t ts ≡ 0 → (times t ts ≡ 0 → is_one_of ts t ≡ false) → (b || is_one_of ts t) ≡ false
    no-case true h rest = absurd (omega (arith, h))
    no-case false h rest = rest (omega (arith, h))

-- texts are distinct where each stands there once at most
once : (ts : List (List ℕ)) → are_distinct ts ≡ true → (t : List ℕ) → times t ts ≤ 1
once [] h t = let none : times t [] ≡ 0 = refl in omega (arith, none)
once (u ∷ ts) h t =
    let both = and-true (not (is_one_of ts u)) (are_distinct ts) h in
    once-case (bytes_eq u t) refl (not-true (is_one_of ts u) both.0) (once ts both.1 t)
  where
    once-case : (b : Bool) → bytes_eq u t ≡ b → is_one_of ts u ≡ false → times t ts ≤ 1 → times t (u ∷ ts) ≤ 1
    once-case true e alone rest =
        let none : times t ts ≡ 0 = nowhere t ts (ap (is_one_of ts) (sym ((bytes_eq-Decides u t).0 e)) ∙ alone) in
        let more : times t (u ∷ ts) ≡ 1 + times t ts = times-cons t u ts ∙ ap (λ b. one b + times t ts) e in
        omega (arith, none, more)
    once-case false e alone rest =
        let more : times t (u ∷ ts) ≡ 0 + times t ts = times-cons t u ts ∙ ap (λ b. one b + times t ts) e in
        omega (arith, rest, more)

from-once : (ts : List (List ℕ)) → ((t : List ℕ) → times t ts ≤ 1) → are_distinct ts ≡ true
from-once [] h = refl
from-once (u ∷ ts) h =
    let same : bytes_eq u u ≡ true = (bytes_eq-Decides u u).1 refl in
    let more : times u (u ∷ ts) ≡ 1 + times u ts = times-cons u u ts ∙ ap (λ b. one b + times u ts) same in
    let here : times u (u ∷ ts) ≤ 1 = h u in
    let none : times u ts ≡ 0 = omega (arith, more, here) in
    both-true (not (is_one_of ts u)) (are_distinct ts) (ap not (no-time u ts none))
    (from-once ts (λ t. let all : times t (u ∷ ts) ≤ 1 = h t in let parts = times-cons t u ts in omega (arith, all, parts)))

moved : (old new : List (List ℕ)) → ((t : List ℕ) → times t new ≡ times t old) → are_distinct old ≡ true → are_distinct new ≡ true
moved old new same h = from-once new (λ t. let e = same t in let o = once old h t in omega (arith, e, o))

both-ways : (a b : Bool) → (a ≡ true → b ≡ true) → (b ≡ true → a ≡ true) → a ≡ b
both-ways true b there back = sym (there refl)
both-ways false true there back = back refl
both-ways false false there back = refl

-- another order of a list has a text twice where the list has
pub same_moved : (old new : List (Bor (List ℕ))) → IsPermutation old new → are_distinct (map (λ t. t.now) new) ≡ are_distinct (map (λ t. t.now) old)
same_moved old new p =
    let before = map (λ (t : Bor (List ℕ)). t.now) old in
    let after = map (λ (t : Bor (List ℕ)). t.now) new in
    let same : (t : List ℕ) → times t after ≡ times t before = λ t. sum_by-IsPermutation (λ u. one (bytes_eq u t)) before after (IsPermutation-map (λ (t : Bor (List ℕ)). t.now) old new p) in
    both-ways (are_distinct after) (are_distinct before) (moved after before (λ t. sym (same t))) (moved before after same)

pub distinct_said : (old new : List (Bor (List ℕ))) (b : Bool) → IsPermutation old new → b ≡ are_distinct (map (λ t. t.now) new) → (b ≡ true) ↔ AreDistinct (map (λ t. t.now) old)
distinct_said old new b p e =
    let ts = map (λ (t : Bor (List ℕ)). t.now) old in
    let answer : b ≡ are_distinct ts = e ∙ same_moved old new p in
    (λ h. distinct-tested ts (sym answer ∙ h), λ h. answer ∙ distinct-passes ts h)

-- ---- a sorted list

abbrev Sorted : List (Bor (List ℕ)) → Type 0
Sorted = IsSorted (λ x y. slice_cmp nat_cmp x.now y.now)

sorted-tail : (x : Bor (List ℕ)) (xs : List (Bor (List ℕ))) → Sorted (x ∷ xs) → Sorted xs
sorted-tail x xs up = λ k d low high.
    let e : suc k + 1 ≡ suc (k + 1) = omega arith in
    rw e at (up (suc k) d (omega arith) (omega (arith, high)))

equal-between : (o p : Ordering) → o ≡ ordering_reverse p → is_lt o ≡ false → is_lt p ≡ false → is_eq o ≡ true
equal-between Less p e f g = absurd (let z : true ≡ false = f in cc)
equal-between Equal p e f g = refl
equal-between Greater Less e f g = absurd (let z : true ≡ false = g in cc)
equal-between Greater Equal e f g = absurd (let z : Greater ≡ Equal = e in cc)
equal-between Greater Greater e f g = absurd (let z : Greater ≡ Less = e in cc)

-- where a text differs from its neighbour, no text behind that one is the same
differs : (x y z : List ℕ) → is_lt (slice_cmp nat_cmp z y) ≡ false → is_lt (slice_cmp nat_cmp y x) ≡ false → bytes_eq x y ≡ false → bytes_eq z x ≡ false
differs x y z over up e = differs-case (bytes_eq z x) refl
  where
    differs-case : (b : Bool) → bytes_eq z x ≡ b → b ≡ false
    differs-case true same =
        let there : is_lt (slice_cmp nat_cmp x y) ≡ false = ap (λ t. is_lt (slice_cmp nat_cmp t y)) (sym ((bytes_eq-Decides z x).0 same)) ∙ over in
        let tie = equal-between (slice_cmp nat_cmp x y) (slice_cmp nat_cmp y x) (nat_list_cmp_total.antisymm x y) there up in
        absurd (let z : true ≡ false = sym tie ∙ is_eq-slice_cmp x y ∙ e in cc)
    differs-case false same = refl

all-differ : (x y d : Bor (List ℕ)) (zs : List (Bor (List ℕ))) → ((j : ℕ) → j < length zs → is_lt (slice_cmp nat_cmp (get_or zs j d).now y.now) ≡ false) → is_lt (slice_cmp nat_cmp y.now x.now) ≡ false
    → bytes_eq x.now y.now ≡ false → is_one_of (map (λ t. t.now) zs) x.now ≡ false
all-differ x y d [] over up e = refl
all-differ x y d (z ∷ zs) over up e =
    or_from (bytes_eq z.now x.now) (is_one_of (map (λ t. t.now) zs) x.now) (differs x.now y.now z.now (over 0 (omega arith)) up e)
    (all-differ x y d zs (λ j lt. over (suc j) (omega (arith, lt))) up e)

behind-differ : (x y : Bor (List ℕ)) (zs : List (Bor (List ℕ))) → Sorted (x ∷ y ∷ zs) → bytes_eq x.now y.now ≡ false → is_one_of (map (λ t. t.now) (y ∷ zs)) x.now ≡ false
behind-differ x y zs up e =
    all-differ x y y (y ∷ zs)
    (λ j lt. sorted_far (λ (a b : Bor (List ℕ)). is_lt (slice_cmp nat_cmp a.now b.now)) (ranks_by nat_list_cmp_total (λ (t : Bor (List ℕ)). t.now)) (y ∷ zs) (sorted-tail x (y ∷ zs) up) 0 j y (omega arith) lt)
    (up 0 x (omega arith) (omega arith)) e

-- what is left behind a text that differs from its neighbour
next : (texts : List (Bor (List ℕ))) (k : ℕ) (d e : Bor (List ℕ)) → Sorted texts → suc k < length texts → bytes_eq (get_or texts k d).now (get_or texts (suc k) e).now ≡ false
    → are_distinct (map (λ t. t.now) (drop k texts)) ≡ are_distinct (map (λ t. t.now) (drop (suc k) texts))
next [] k d e up lt other = absurd (omega (arith, lt))
next (x ∷ []) k d e up lt other = absurd (omega (arith, lt))
next (x ∷ y ∷ zs) zero d e up lt other = ap (λ b. not b && are_distinct (map (λ t. t.now) (y ∷ zs))) (behind-differ x y zs up other)
next (x ∷ y ∷ zs) (suc k) d e up lt other = next (y ∷ zs) k d e (sorted-tail x (y ∷ zs) up) (omega (arith, lt)) other

-- two neighbours that are the same
twice : (texts : List (Bor (List ℕ))) (k : ℕ) (d e : Bor (List ℕ)) → suc k < length texts → bytes_eq (get_or texts k d).now (get_or texts (suc k) e).now ≡ true → are_distinct (map (λ t. t.now) (drop k texts)) ≡ false
twice [] k d e lt same = absurd (omega (arith, lt))
twice (x ∷ []) k d e lt same = absurd (omega (arith, lt))
twice (x ∷ y ∷ zs) zero d e lt same =
    ap (λ b. not (b || is_one_of (map (λ t. t.now) zs) x.now) && are_distinct (map (λ t. t.now) (y ∷ zs))) ((bytes_eq-Decides y.now x.now).1 (sym ((bytes_eq-Decides x.now y.now).0 same)))
twice (x ∷ y ∷ zs) (suc k) d e lt same = twice (y ∷ zs) k d e (omega (arith, lt)) same

-- the last text alone, or no text
alone : (texts : List (Bor (List ℕ))) (k : ℕ) → length texts ≤ suc k → are_distinct (map (λ t. t.now) (drop k texts)) ≡ true
alone [] zero short = refl
alone [] (suc k) short = refl
alone (x ∷ []) zero short = refl
alone (x ∷ y ∷ zs) zero short = absurd (omega (arith, short))
alone (x ∷ texts) (suc k) short = alone texts k (omega (arith, short))

pub neighbours_differ : (texts : List (Bor (List ℕ))) (later : ℕ) (d e : Bor (List ℕ)) → Sorted texts → 1 ≤ later → later < length texts → bytes_eq (get_or texts (later - 1) d).now (get_or texts later e).now ≡ false
    → are_distinct (map (λ t. t.now) (drop (later - 1) texts)) ≡ are_distinct (map (λ t. t.now) (drop (later + 1 - 1) texts))
neighbours_differ texts zero d e up low high other = absurd (omega (arith, low))
neighbours_differ texts (suc k) d e up low high other =
    let before : suc k - 1 ≡ k = omega arith in
    let behind : suc k + 1 - 1 ≡ suc k = omega arith in
    rw (before, behind) (next texts k d e up high (rw before at other))

pub neighbours_equal : (texts : List (Bor (List ℕ))) (later : ℕ) (d e : Bor (List ℕ)) → 1 ≤ later → later < length texts → bytes_eq (get_or texts (later - 1) d).now (get_or texts later e).now ≡ true
    → are_distinct (map (λ t. t.now) (drop (later - 1) texts)) ≡ false
neighbours_equal texts zero d e low high same = absurd (omega (arith, low))
neighbours_equal texts (suc k) d e low high same =
    let before : suc k - 1 ≡ k = omega arith in
    rw before (twice texts k d e high (rw before at same))

pub at_end : (texts : List (Bor (List ℕ))) (later : ℕ) → 1 ≤ later → length texts ≤ later → are_distinct (map (λ t. t.now) (drop (later - 1) texts)) ≡ true
at_end texts zero low short = absurd (omega (arith, low))
at_end texts (suc k) low short =
    let before : suc k - 1 ≡ k = omega arith in
    rw before (alone texts k short)
