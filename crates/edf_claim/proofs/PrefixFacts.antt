-- Prefixes in the order of their bytes, and one with which a text begins.
use Rattle.std.proofs.Common.{◌≡◌, ℕ, zero, suc, ◌+◌, ◌-◌, ◌<◌, ◌≤◌, ◌==◌, nat_lt, Less, Equal, Greater, Ordering, Bool, true, false, ◌||◌, ◌&&◌, cond, List, [], ◌∷◌, ◌++◌, length, length-append, take, get_or, map, slice_get, ◌⊎◌, inl, inr, ⊎_elim, refl, sym, ap, ◌∙◌, arith, Ok, Err, Some, eqb}
use Rattle.std.specs.Cmp.Lexicographic.{slice_cmp}
use Rattle.std.specs.Global.{Vec}
use Rattle.std.specs.List.{list_any, starts_with}
use Rattle.std.specs.List.Sorted.{IsSorted, IsBinarySearchResult}
use Rattle.std.specs.Option.{option_map_or}
use Rattle.std.specs.Ordering.{nat_cmp, is_lt, is_eq, ordering_then}
use Rattle.std.proofs.lemmas.Bool.{cases_lt}
use Rattle.std.proofs.lemmas.Bool.Decides.{nat_tests}
use Rattle.std.proofs.lemmas.Cmp.{nat_list_cmp_total}
use Rattle.std.proofs.lemmas.List.{get_or_push, get_or_default, get_or-take, length-take-le}
use Rattle.std.proofs.Math.Seq.{take-suc}
use Rattle.std.proofs.lemmas.List.Folds.{list_any_at, list_any_none, list_any-append}
use Rattle.std.proofs.lemmas.List.Kept.{IsSortedBy-push}
use Rattle.std.proofs.lemmas.List.Sorted.{searchable_from_sorted, sorted_far, ranks_by}
use Rattle.std.proofs.lemmas.Option.{slice_get-get_or}
use Rattle.std.proofs.lemmas.Slice.Eq.{bytes_eq-Decides}
use Rattle.edf_fields.specs.Lists.{Has, is_one_of}
use Rattle.edf_fields.proofs.ForCallers.{and-true, both-true, or-true, has-one_of, one_of-has}
use Rattle.edf_claim.specs.KeepsReading.{begins_with_last, AreApart, IsIndex, IsPrefixIndex, begins_with}
use Rattle.edf_claim.proofs.SortedFacts.{any-map, equal-tested}

-- ---- one text that begins with another

-- `begins_with`, byte by byte
abbrev starts : List ℕ → List ℕ → Bool
starts [] text = true
starts (x ∷ prefix) [] = false
starts (x ∷ prefix) (y ∷ text) = (x == y) && starts prefix text

begins-starts : (prefix text : List ℕ) → begins_with prefix text ≡ starts prefix text
begins-starts [] text = refl
begins-starts (x ∷ prefix) [] = refl
begins-starts (x ∷ prefix) (y ∷ text) = ap (λ b. (x == y) && b) (begins-starts prefix text)

starts-self : (text : List ℕ) → starts text text ≡ true
starts-self [] = refl
starts-self (x ∷ text) = both-true (x == x) (starts text text) (let z : (x == x) ≡ true = grind (arith, nat_tests) in z) (starts-self text)

starts-on : (a b c : List ℕ) → starts a b ≡ true → starts b c ≡ true → starts a c ≡ true
starts-on [] b c h i = refl
starts-on (x ∷ a) [] c h i = absurd (let z : false ≡ true = h in cc)
starts-on (x ∷ a) (y ∷ b) [] h i = absurd (let z : false ≡ true = i in cc)
starts-on (x ∷ a) (y ∷ b) (z ∷ c) h i =
    let one = and-true (x == y) (starts a b) h in
    let two = and-true (y == z) (starts b c) i in
    let p = one.0 in
    let q = two.0 in
    both-true (x == z) (starts a c) (let e : (x == z) ≡ true = grind (arith, nat_tests, p, q) in e) (starts-on a b c one.1 two.1)

-- the order of two texts by their first bytes: `a` says that the first is less, `b` that they are the same
not-less : (a b : Bool) (o : Ordering) → is_lt (ordering_then (cond a Less (cond b Equal Greater)) o) ≡ false → (a ≡ false) × (b ≡ true → is_lt o ≡ false)
not-less true b o h = absurd (let z : true ≡ false = h in cc)
not-less false true o h = (refl, λ e. h)
not-less false false o h = (refl, λ e. absurd (let z : false ≡ true = e in cc))

less : (a b : Bool) (o : Ordering) → ordering_then (cond a Less (cond b Equal Greater)) o ≡ Less → (a ≡ true) ⊎ ((b ≡ true) × (o ≡ Less))
less true b o h = inl refl
less false true o h = inr (refl, h)
less false false o h = absurd (let z : Greater ≡ Less = h in cc)

greater : (a b : Bool) (o : Ordering) → ordering_then (cond a Less (cond b Equal Greater)) o ≡ Greater → b ≡ true → o ≡ Greater
greater true b o h e = absurd (let z : Less ≡ Greater = h in cc)
greater false true o h e = h
greater false false o h e = absurd (let z : false ≡ true = e in cc)

-- a text that stands between another one and what begins with that begins with it, too
between : (prefix middle text : List ℕ) → is_lt (slice_cmp nat_cmp middle prefix) ≡ false → slice_cmp nat_cmp middle text ≡ Less → starts prefix text ≡ true → starts prefix middle ≡ true
between [] middle text low high b = refl
between (x ∷ prefix) [] text low high b = absurd (let z : true ≡ false = low in cc)
between (x ∷ prefix) (y ∷ middle) [] low high b = absurd (let z : false ≡ true = b in cc)
between (x ∷ prefix) (y ∷ middle) (z ∷ text) low high b =
    let both = and-true (x == z) (starts prefix text) b in
    let p = both.0 in
    let l = not-less (nat_lt y x) (y == x) (slice_cmp nat_cmp middle prefix) low in
    let m = l.0 in
    ⊎_elim
    (λ q. absurd (let e : true ≡ false = grind (arith, nat_tests, p, q, m) in cc))
    (λ h.
    let q = h.0 in
    let same : (y == x) ≡ true = grind (arith, nat_tests, p, q) in
    let turned : (x == y) ≡ true = grind (arith, nat_tests, same) in
    both-true (x == y) (starts prefix middle) turned (between prefix middle text (l.1 same) h.1 both.1))
    (less (nat_lt y z) (y == z) (slice_cmp nat_cmp middle text) high)

-- a text isn't behind one that begins with it
not-behind : (prefix text : List ℕ) → starts prefix text ≡ true → slice_cmp nat_cmp prefix text ≡ Greater → ⊥
not-behind [] [] b h = let z : Equal ≡ Greater = h in cc
not-behind [] (y ∷ text) b h = let z : Less ≡ Greater = h in cc
not-behind (x ∷ prefix) [] b h = let z : false ≡ true = b in cc
not-behind (x ∷ prefix) (y ∷ text) b h =
    let both = and-true (x == y) (starts prefix text) b in
    not-behind prefix text both.1 (greater (nat_lt x y) (x == y) (slice_cmp nat_cmp prefix text) h both.0)

-- ---- the one of the prefixes with which a text begins

pub last_tested : (r : Bool) (xs : List (Vec ℕ)) (x : Vec ℕ) (prefix text : List ℕ) → r ≡ starts_with eqb text prefix → prefix ≡ x.items → Some x ≡ slice_get xs (length xs - 1) → r ≡ begins_with_last xs text
last_tested r xs x prefix text is same there =
    is ∙ ap (λ p. starts_with eqb text p) same ∙ ap (λ o. option_map_or (λ (l : Vec ℕ). begins_with l.items text) o false) there

last-is : (xs : List (Vec ℕ)) (d : Vec ℕ) (text : List ℕ) → 0 < length xs → begins_with_last xs text ≡ begins_with (get_or xs (length xs - 1) d).items text
last-is xs d text some = ap (λ o. option_map_or (λ (l : Vec ℕ). begins_with l.items text) o false) (slice_get-get_or xs (length xs - 1) d (omega (arith, some)))

-- those before place i are before the text, and those from there on behind it
record Parts (sorted : List (Vec ℕ)) (text : List ℕ) (i : ℕ) : Type 0 where
  before : (k : ℕ) (d : Vec ℕ) → k < i → slice_cmp nat_cmp (get_or sorted k d).items text ≡ Less
  behind : (k : ℕ) (d : Vec ℕ) → i ≤ k → k < length sorted → slice_cmp nat_cmp (get_or sorted k d).items text ≡ Greater

only-last : (sorted : List (Vec ℕ)) (text : List ℕ) (i : ℕ) → IsSorted (λ x y. slice_cmp nat_cmp x.items y.items) sorted → AreApart sorted → Parts sorted text i → i ≤ length sorted
    → (k : ℕ) (d : Vec ℕ) → k < length sorted → starts (get_or sorted k d).items text ≡ true → k + 1 ≡ i
only-last sorted text i order apart parts within k d lt b =
    elim (cases_lt k i) [
      | inl before ↦
          elim (cases_lt (k + 1) i) [
            | inl more ↦
                let here = (get_or sorted k d).items in
                let next = (get_or sorted (k + 1) d).items in
                let high : k + 1 < length sorted = omega (arith, more, within) in
                let there : starts here next ≡ true = between here next text (order k d (omega arith) high) (parts.before (k + 1) d more) b in
                let other : begins_with here next ≡ false = apart k d (omega arith) high in
                absurd (let z : true ≡ false = sym there ∙ sym (begins-starts here next) ∙ other in cc)
            | inr le ↦ omega (arith, before, le)
          ]
      | inr late ↦ absurd (not-behind (get_or sorted k d).items text b (parts.behind k d late lt))
    ]

bool-case : (b : Bool) (P : Type 0) → (b ≡ true → P) → (b ≡ false → P) → P
bool-case true P f g = f refl
bool-case false P f g = g refl

none-begins : (sorted : List (Vec ℕ)) (text : List ℕ) → ((k : ℕ) (d : Vec ℕ) → k < length sorted → starts (get_or sorted k d).items text ≡ true → ⊥) → list_any (λ t. begins_with t.items text) sorted ≡ false
none-begins sorted text none =
    list_any_none (λ (t : Vec ℕ). begins_with t.items text) sorted (λ k d lt.
    begins-starts (get_or sorted k d).items text ∙ bool-case (starts (get_or sorted k d).items text) (starts (get_or sorted k d).items text ≡ false) (λ e. absurd (none k d lt e)) (λ e. e))

-- of prefixes in order, none of which begins with the one before it, the last one that isn't behind the text decides
last-decides : (sorted : List (Vec ℕ)) (text : List ℕ) (i : ℕ) → IsSorted (λ x y. slice_cmp nat_cmp x.items y.items) sorted → AreApart sorted → Parts sorted text i → i ≤ length sorted
    → begins_with_last (take i sorted) text ≡ list_any (λ t. begins_with t.items text) sorted
last-decides sorted text zero order apart parts within =
    sym (none-begins sorted text (λ k d lt b. let e = only-last sorted text 0 order apart parts within k d lt b in absurd (omega (arith, e))))
last-decides [] text (suc j) order apart parts within = absurd (omega (arith, within))
last-decides (x ∷ xs) text (suc j) order apart parts within =
    let sorted : List (Vec ℕ) = x ∷ xs in
    let front = take (suc j) sorted in
    let long : length front ≡ suc j = length-take-le (suc j) sorted within in
    let place : length front - 1 ≡ j = omega (arith, long) in
    let last : begins_with_last front text ≡ begins_with (get_or sorted j x).items text =
    last-is front x text (omega (arith, long)) ∙ ap (λ k. begins_with (get_or front k x).items text) place
    ∙ ap (λ (v : Vec ℕ). begins_with v.items text) (get_or-take (suc j) sorted j x (omega arith)) in
    last ∙ bool-case (begins_with (get_or sorted j x).items text) (begins_with (get_or sorted j x).items text ≡ list_any (λ t. begins_with t.items text) sorted)
    (λ e. e ∙ sym (list_any_at (λ (t : Vec ℕ). begins_with t.items text) sorted j x (omega (arith, within)) e))
    (λ e. e ∙ sym (none-begins sorted text (λ k d lt b.
    let same : k + 1 ≡ suc j = only-last sorted text (suc j) order apart parts within k d lt b in
    let one : k ≡ j = omega (arith, same) in
    let other : begins_with (get_or sorted k x).items text ≡ false = ap (λ m. begins_with (get_or sorted m x).items text) one ∙ e in
    let here : starts (get_or sorted k x).items text ≡ true = ap (λ (v : Vec ℕ). starts v.items text) (get_or_default sorted k x d lt) ∙ b in
    let z : true ≡ false = sym here ∙ sym (begins-starts (get_or sorted k x).items text) ∙ other in cc)))

pub begins_nowhere_else : (sorted : List (Vec ℕ)) (text : List ℕ) (i : ℕ) (r : Bool) → IsSorted (λ x y. slice_cmp nat_cmp x.items y.items) sorted → AreApart sorted
    → IsBinarySearchResult (λ y. slice_cmp nat_cmp y.items text) sorted (Err i) → i ≤ length sorted → r ≡ begins_with_last (take i sorted) text
    → r ≡ list_any (λ prefix. begins_with prefix text) (map (λ t. t.items) sorted)
begins_nowhere_else sorted text i r order apart h within is =
    let parts = h (searchable_from_sorted nat_list_cmp_total (λ (t : Vec ℕ). t.items) sorted text order) in
    is ∙ last-decides sorted text i order apart (record { before = λ k d lt. parts.0 k d (omega arith) lt; behind = parts.1 }) within
    ∙ sym (any-map (λ prefix. begins_with prefix text) (λ (t : Vec ℕ). t.items) sorted)

pub begins_there : (sorted : List (Vec ℕ)) (text : List ℕ) (i : ℕ) → IsBinarySearchResult (λ y. slice_cmp nat_cmp y.items text) sorted (Ok i) → i < length sorted
    → true ≡ list_any (λ prefix. begins_with prefix text) (map (λ t. t.items) sorted)
begins_there sorted text i h lt = sym (any-map (λ prefix. begins_with prefix text) (λ (t : Vec ℕ). t.items) sorted ∙ at sorted h lt)
  where
    at : (texts : List (Vec ℕ)) → ((d : Vec ℕ) → slice_cmp nat_cmp (get_or texts i d).items text ≡ Equal) → i < length texts → list_any (λ t. begins_with t.items text) texts ≡ true
    at [] h lt = absurd (omega (arith, lt))
    at (t ∷ ts) h lt =
        let one = (get_or (t ∷ ts) i t).items in
        let same : one ≡ text = (bytes_eq-Decides one text).0 (sym (equal-tested one text) ∙ ap is_eq (h t)) in
        list_any_at (λ (t : Vec ℕ). begins_with t.items text) (t ∷ ts) i t lt (begins-starts one text ∙ ap (λ p. starts p text) same ∙ starts-self text)

-- ---- those that begin with no other one

pub record AreShortest (sorted : List (Vec ℕ)) (i : ℕ) (shortest : List (Vec ℕ)) : Type 0 where
  pub order : IsSorted (λ x y. slice_cmp nat_cmp x.items y.items) shortest
  pub apart : AreApart shortest
  pub same : (text : List ℕ) → list_any (λ t. begins_with t.items text) shortest ≡ list_any (λ t. begins_with t.items text) (take i sorted)
  pub last : (d : Vec ℕ) → 0 < length shortest → (m : ℕ) × (m < i) × ((get_or shortest (length shortest - 1) d).items ≡ (get_or sorted m d).items)

pub shortest-none : (sorted : List (Vec ℕ)) → AreShortest sorted 0 []
shortest-none sorted = record {
  order = λ k d low high. absurd (omega (arith, high));
  apart = λ k d low high. absurd (omega (arith, high));
  same = λ text. refl;
  last = λ d some. absurd (omega (arith, some));
}

or-false : (b : Bool) → (b || false) ≡ b
or-false true = refl
or-false false = refl

take-all : (i : ℕ) (xs : List (Vec ℕ)) → length xs ≤ i → take i xs ≡ xs
take-all zero [] le = refl
take-all (suc i) [] le = refl
take-all zero (x ∷ xs) le = absurd (omega (arith, le))
take-all (suc i) (x ∷ xs) le = ap (λ ys. x ∷ ys) (take-all i xs (omega (arith, le)))

-- whether a text begins with one of the first `i + 1`
one-more : (sorted : List (Vec ℕ)) (i : ℕ) (x : Vec ℕ) (text : List ℕ) → i < length sorted → x ≡ get_or sorted i x
    → list_any (λ t. begins_with t.items text) (take (i + 1) sorted) ≡ (list_any (λ t. begins_with t.items text) (take i sorted) || begins_with x.items text)
one-more sorted i x text lt is =
    let test : Vec ℕ → Bool = λ t. begins_with t.items text in
    let front = list_any test (take i sorted) in
    ap (λ n. list_any test (take n sorted)) (let e : i + 1 ≡ suc i = omega arith in e) ∙ ap (list_any test) (take-suc sorted i x lt) ∙ list_any-append test (take i sorted) (get_or sorted i x ∷ [])
    ∙ ap (λ b. front || b) (or-false (test (get_or sorted i x)) ∙ ap test (sym is))

or-implied : (a b : Bool) → (b ≡ true → a ≡ true) → a ≡ (a || b)
or-implied true b f = refl
or-implied false true f = f refl
or-implied false false f = refl

last-in : (shortest : List (Vec ℕ)) (text : List ℕ) → begins_with_last shortest text ≡ true → (d : Vec ℕ) × (0 < length shortest) × (begins_with (get_or shortest (length shortest - 1) d).items text ≡ true)
last-in [] text h = absurd (let z : false ≡ true = h in cc)
last-in (x ∷ xs) text h = (x, omega arith, sym (last-is (x ∷ xs) x text (omega arith)) ∙ h)

-- a text that begins with the last one changes nothing
pub shortest-skipped : (sorted : List (Vec ℕ)) (i : ℕ) (shortest : List (Vec ℕ)) (x : Vec ℕ) → i < length sorted → x ≡ get_or sorted i x → begins_with_last shortest x.items ≡ true → AreShortest sorted i shortest
    → AreShortest sorted (i + 1) shortest
shortest-skipped sorted i shortest x lt is behind before = record {
  order = before.order;
  apart = before.apart;
  same = λ text.
      let test : Vec ℕ → Bool = λ t. begins_with t.items text in
      let had : list_any test shortest ≡ list_any test (take i sorted) = before.same text in
      let found = last-in shortest x.items behind in
      let d = found.0 in
      let last = get_or shortest (length shortest - 1) d in
      let some = found.1 in
      had ∙ or-implied (list_any test (take i sorted)) (test x) (λ b.
      let here : starts last.items x.items ≡ true = sym (begins-starts last.items x.items) ∙ found.2 in
      let there : starts x.items text ≡ true = sym (begins-starts x.items text) ∙ b in
      sym had ∙ list_any_at test shortest (length shortest - 1) d (omega (arith, some)) (begins-starts last.items text ∙ starts-on last.items x.items text here there))
      ∙ sym (one-more sorted i x text lt is);
  last = λ d some. let l = before.last d some in (l.0, (let n = l.1 in omega (arith, n)), l.2);
}

-- one that doesn't is put behind them
pub shortest-pushed : (sorted : List (Vec ℕ)) (i : ℕ) (shortest : List (Vec ℕ)) (x y : Vec ℕ) → IsSorted (λ x y. slice_cmp nat_cmp x.items y.items) sorted → i < length sorted → x ≡ get_or sorted i x
    → begins_with_last shortest x.items ≡ false → y.items ≡ x.items → AreShortest sorted i shortest → AreShortest sorted (i + 1) (shortest ++ (y ∷ []))
shortest-pushed sorted i shortest x y up lt is apart copy before =
    let by : Vec ℕ → Vec ℕ → Bool = λ a b. is_lt (slice_cmp nat_cmp a.items b.items) in
    let begins : Vec ℕ → Vec ℕ → Bool = λ text early. begins_with early.items text.items in
    record {
      order = IsSortedBy-push by shortest y before.order (λ d some.
          let l = before.last d some in
          let m = l.0 in
          let n = l.1 in
          let far : by (get_or sorted i x) (get_or sorted m x) ≡ false = sorted_far by (ranks_by nat_list_cmp_total (λ (t : Vec ℕ). t.items)) sorted up m i x (omega (arith, n)) lt in
          let here : y.items ≡ (get_or sorted i x).items = copy ∙ ap (λ (t : Vec ℕ). t.items) is in
          let there : (get_or shortest (length shortest - 1) d).items ≡ (get_or sorted m x).items = l.2 ∙ ap (λ (t : Vec ℕ). t.items) (get_or_default sorted m d x (omega (arith, n, lt))) in
          ap (λ t. is_lt (slice_cmp nat_cmp t (get_or shortest (length shortest - 1) d).items)) here
          ∙ ap (λ t. is_lt (slice_cmp nat_cmp (get_or sorted i x).items t)) there ∙ far);
      apart = IsSortedBy-push begins shortest y before.apart (λ d some.
          ap (begins_with (get_or shortest (length shortest - 1) d).items) copy ∙ sym (last-is shortest d x.items some) ∙ apart);
      same = λ text.
          let test : Vec ℕ → Bool = λ t. begins_with t.items text in
          list_any-append test shortest (y ∷ []) ∙ ap (λ b. list_any test shortest || b) (or-false (test y) ∙ ap (λ t. begins_with t text) copy)
          ∙ ap (λ a. a || test x) (before.same text) ∙ sym (one-more sorted i x text lt is);
      last = λ d some.
          let place : length (shortest ++ (y ∷ [])) - 1 ≡ length shortest = omega (arith, length-append shortest (y ∷ [])) in
          let here : get_or (shortest ++ (y ∷ [])) (length (shortest ++ (y ∷ [])) - 1) d ≡ y = ap (λ n. get_or (shortest ++ (y ∷ [])) n d) place ∙ get_or_push shortest y d (length shortest) refl in
          (i, omega arith, ap (λ (t : Vec ℕ). t.items) (here) ∙ copy ∙ ap (λ (t : Vec ℕ). t.items) (is ∙ get_or_default sorted i x d lt));
    }

pub shortest-all : (sorted : List (Vec ℕ)) (i : ℕ) (shortest : List (Vec ℕ)) → length sorted ≤ i → AreShortest sorted i shortest → IsPrefixIndex (map (λ t. t.items) sorted) shortest
shortest-all sorted i shortest le done = record {
  order = done.order;
  apart = done.apart;
  same = λ text.
      let test : Vec ℕ → Bool = λ t. begins_with t.items text in
      let begins : List ℕ → Bool = λ prefix. begins_with prefix text in
      any-map begins (λ (t : Vec ℕ). t.items) shortest ∙ done.same text ∙ ap (list_any test) (take-all i sorted le) ∙ sym (any-map begins (λ (t : Vec ℕ). t.items) sorted);
}

-- ---- the same texts in another order

pub any-has : (test : List ℕ → Bool) (texts : List (List ℕ)) → list_any test texts ≡ true → (t : List ℕ) × Has texts t × (test t ≡ true)
any-has test [] h = absurd (let z : false ≡ true = h in cc)
any-has test (t ∷ ts) h = go (test t) refl h (any-has test ts)
  where
    go : (b : Bool) → test t ≡ b → (b || list_any test ts) ≡ true → (list_any test ts ≡ true → (u : List ℕ) × Has ts u × (test u ≡ true)) → (u : List ℕ) × Has (t ∷ ts) u × (test u ≡ true)
    go true e h more = (t, inl refl, e)
    go false e h more = let r = more h in (r.0, inr r.1, r.2)

pub has-any : (test : List ℕ → Bool) (texts : List (List ℕ)) (t : List ℕ) → Has texts t → test t ≡ true → list_any test texts ≡ true
has-any test [] t h e = absurd h
has-any test (u ∷ us) t (inl same) e = ap (λ b. b || list_any test us) (ap test same ∙ e)
has-any test (u ∷ us) t (inr more) e = or-true (test u) (list_any test us) (has-any test us t more e)

any-same : (test : List ℕ → Bool) (xs ys : List (List ℕ)) → ((t : List ℕ) → is_one_of xs t ≡ is_one_of ys t) → list_any test xs ≡ list_any test ys
any-same test xs ys same = both-ways (list_any test xs) (list_any test ys) (over xs ys same) (over ys xs (λ t. sym (same t)))
  where
    over : (us vs : List (List ℕ)) → ((t : List ℕ) → is_one_of us t ≡ is_one_of vs t) → list_any test us ≡ true → list_any test vs ≡ true
    over us vs e h = let r = any-has test us h in has-any test vs r.0 (one_of-has vs r.0 (sym (e r.0) ∙ has-one_of us r.0 r.1)) r.2

    both-ways : (a b : Bool) → (a ≡ true → b ≡ true) → (b ≡ true → a ≡ true) → a ≡ b
    both-ways true b there back = sym (there refl)
    both-ways false true there back = back refl
    both-ways false false there back = refl

pub prefixes-indexed : (texts : List (List ℕ)) (sorted seen shortest : List (Vec ℕ)) → IsIndex texts sorted → seen ≡ sorted → IsPrefixIndex (map (λ t. t.items) seen) shortest → IsPrefixIndex texts shortest
prefixes-indexed texts sorted seen shortest index all is = record {
  order = is.order;
  apart = is.apart;
  same = λ text. is.same text ∙ ap (λ ss. list_any (λ prefix. begins_with prefix text) (map (λ (t : Vec ℕ). t.items) ss)) all
      ∙ any-same (λ prefix. begins_with prefix text) (map (λ (t : Vec ℕ). t.items) sorted) texts index.same;
}

-- what is found among the shortest is found among all
pub begun_among : (texts : List (List ℕ)) (shortest seen : List (Vec ℕ)) (text : List ℕ) (r : Bool) → IsPrefixIndex texts shortest → seen ≡ shortest → r ≡ list_any (λ prefix. begins_with prefix text) (map (λ t. t.items) seen)
    → r ≡ list_any (λ prefix. begins_with prefix text) texts
begun_among texts shortest seen text r index all is =
    is ∙ ap (λ ss. list_any (λ prefix. begins_with prefix text) (map (λ (t : Vec ℕ). t.items) ss)) all ∙ index.same text
