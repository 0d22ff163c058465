-- The earliest difference of several channels is the least.
use Rattle.std.proofs.Common.{slice_get, zero, suc, ◌≤◌, MatchOption, ◌≡◌, ℕ, ◌+◌, ◌<◌, Bool, true, false, cond, List, [], ◌∷◌, Option, Some, None, IfSome, refl, subst, arith, length, map, drop, get_or, sym, ap, ◌∙◌, add-one, ◌⊎◌, inl, inr, ⊎_elim}
use Rattle.std.proofs.Math.Seq.{drop-cons}
use Rattle.std.specs.Option.{option_map}
use Rattle.edf_samples.specs.declared.difference.PointDifference.{PointDifference}
use Rattle.edf_samples.specs.declared.earliest.Found.{Found}
use Rattle.edf_stream.specs.times.Instants.{IsSame}
use Rattle.edf_stream.specs.times.InstantOrder.{IsNotBefore}
use Rattle.edf_samples.specs.InstantOrder.{IsBefore, is_before}
use Rattle.edf_fields.specs.Lists.{Has}
use Rattle.edf_samples.specs.Differences.{found, earlier, earliest}
use Rattle.edf_samples.proofs.FractionFacts.{before_below, is_before-true, is_before-false, before_same_back, from_below, self_above}
use Rattle.std.specs.List.{AllByRecursion}

-- f is some channel's difference; none is before it, and none of a lower channel is at its instant
abbrev pub IsEarliest : List (Option PointDifference) → Found → Type 0
IsEarliest ds f =
    (slice_get ds f.channel ≡ Some (Some f.difference)) ×
    ((k : ℕ) (d : PointDifference) → slice_get ds k ≡ Some (Some d) → IsNotBefore d.at f.difference.at) ×
    ((k : ℕ) (d : PointDifference) → slice_get ds k ≡ Some (Some d) → IsSame d.at f.difference.at → f.channel ≤ k)

-- each difference is at an instant
abbrev pub AreInstants : List (Option PointDifference) → Type 0
AreInstants ds = AllByRecursion (λ o. IfSome o (λ d. 0 < d.at.den)) ds

-- `IsEarliest`, where the first place is that of channel k
record IsEarliestFrom (k : ℕ) (ds : List (Option PointDifference)) (f : Found) : Type 0 where
  place : ℕ
  channel : f.channel ≡ place + k
  is_there : slice_get ds place ≡ Some (Some f.difference)
  positive : 0 < f.difference.at.den
  first : (j : ℕ) (d : PointDifference) → slice_get ds j ≡ Some (Some d) → IsNotBefore d.at f.difference.at
  least : (j : ℕ) (d : PointDifference) → slice_get ds j ≡ Some (Some d) → IsSame d.at f.difference.at → place ≤ j

abbrev NoneThere : List (Option PointDifference) → Type 0
NoneThere ds = (j : ℕ) (d : PointDifference) → slice_get ds j ≡ Some (Some d) → ⊥

-- what holds of the head and of the rest
every : (o : Option PointDifference) (ds : List (Option PointDifference)) (Q : ℕ → PointDifference → Type 0) → ((d : PointDifference) → o ≡ Some d → Q 0 d) →
    ((j : ℕ) (d : PointDifference) → slice_get ds j ≡ Some (Some d) → Q (suc j) d) → (j : ℕ) (d : PointDifference) → slice_get (o ∷ ds) j ≡ Some (Some d) → Q j d
every o ds Q h t zero d e = h d (let i : Some o ≡ Some (Some d) = e in cc)
every o ds Q h t (suc j) d e = t j d e

at_head : (a : PointDifference) (P : PointDifference → Type 0) → P a → (d : PointDifference) → Some a ≡ Some d → P d
at_head a P h d e = let i : a ≡ d = cc in subst P i h

head_alone : (k : ℕ) (a : PointDifference) (ds : List (Option PointDifference)) → 0 < a.at.den → ((j : ℕ) (d : PointDifference) → slice_get ds j ≡ Some (Some d) → IsNotBefore d.at a.at) → IsEarliestFrom k (Some a ∷ ds) (found k a)
head_alone k a ds pa above = record {
  place = 0;
  channel = omega arith;
  is_there = refl;
  positive = pa;
  first = every (Some a) ds (λ j d. IsNotBefore d.at a.at) (at_head a (λ d. IsNotBefore d.at a.at) (self_above a.at)) above;
  least = λ j d e s. omega arith;
}

after : (o : Option PointDifference) (f : Found) → IfSome o (λ a. IsBefore f.difference.at a.at) → (d : PointDifference) → o ≡ Some d → IsBefore f.difference.at d.at
after o f h d e = let P : Option PointDifference → Type 0 = λ p. IfSome p (λ a. IsBefore f.difference.at a.at) in subst P e h

-- the earliest of the rest, where the head is after it or none
rest_is : (k : ℕ) (o : Option PointDifference) (ds : List (Option PointDifference)) (f : Found) → IfSome o (λ a. IsBefore f.difference.at a.at) → IsEarliestFrom (k + 1) ds f → IsEarliestFrom k (o ∷ ds) f
rest_is k o ds f h r = record {
  place = suc r.place;
  channel = (let c = r.channel in omega arith);
  is_there = r.is_there;
  positive = r.positive;
  first = every o ds (λ j d. IsNotBefore d.at f.difference.at) (λ d e. before_below f.difference.at d.at (after o f h d e)) r.first;
  least = every o ds (λ j d. IsSame d.at f.difference.at → suc r.place ≤ j)
      (λ d e s. absurd (before_same_back f.difference.at d.at (after o f h d e) s))
      (λ j d e s. let l : r.place ≤ j = r.least j d e s in omega arith);
}

Answer : ℕ → List (Option PointDifference) → Option Found → Type 0
Answer k ds o = MatchOption o (NoneThere ds) (IsEarliestFrom k ds)

both_there : (k : ℕ) (a : PointDifference) (ds : List (Option PointDifference)) (b : Found) (t : Bool) → is_before b.difference.at a.at ≡ t → 0 < a.at.den → IsEarliestFrom (k + 1) ds b →
    Answer k (Some a ∷ ds) (cond t (Some b) (Some (found k a)))
unfolding Answer
both_there k a ds b true e pa r = rest_is k (Some a) ds b (is_before-true b.difference.at a.at e) r
both_there k a ds b false e pa r =
    head_alone k a ds pa (λ j d h. from_below d.at b.difference.at a.at r.positive (r.first j d h) (is_before-false b.difference.at a.at e))

joined : (k : ℕ) (o : Option PointDifference) (ds : List (Option PointDifference)) (r : Option Found) → IfSome o (λ d. 0 < d.at.den) → Answer (k + 1) ds r → Answer k (o ∷ ds) (earlier (option_map (found k) o) r)
unfolding Answer
joined k None ds None p h = every None ds (λ j d. ⊥) (λ d e. cc) h
joined k None ds (Some f) p h = rest_is k None ds f tt h
joined k (Some a) ds None p h = head_alone k a ds p (λ j d e. absurd (h j d e))
joined k (Some a) ds (Some b) p h = both_there k a ds b (is_before b.difference.at a.at) refl p h

answers : (k : ℕ) (ds : List (Option PointDifference)) → AreInstants ds → Answer k ds (earliest k ds)
unfolding Answer
answers k [] p = λ j d e. cc
answers k (o ∷ ds) p = joined k o ds (earliest (k + 1) ds) p.0 (answers (k + 1) ds p.1)

from_zero : (ds : List (Option PointDifference)) (o : Option Found) → Answer 0 ds o → MatchOption o (NoneThere ds) (IsEarliest ds)
unfolding Answer
from_zero ds None h = h
from_zero ds (Some f) h =
    let e : f.channel ≡ h.place = (let c = h.channel in omega arith) in
    (rw e h.is_there, h.first, λ j d i s. rw e (h.least j d i s))

pub earliest-is-least : (ds : List (Option PointDifference)) → AreInstants ds →
    MatchOption (earliest 0 ds) ((j : ℕ) (d : PointDifference) → slice_get ds j ≡ Some (Some d) → ⊥) (IsEarliest ds)
earliest-is-least ds p = from_zero ds (earliest 0 ds) (answers 0 ds p)

-- one more channel, before those that were compared
pub earliest-step : {X : Type 0} (f : X → Option PointDifference) (xs : List X) (i k : ℕ) (x : X) (next : Option PointDifference) (here held result : Option Found)
    → i ≡ k + 1 → k < length xs → next ≡ f (get_or xs k x) → here ≡ option_map (found k) next → result ≡ earlier here held
    → held ≡ earliest i (map f (drop i xs)) → result ≡ earliest k (map f (drop k xs))
earliest-step f xs i k x next here held result ei lt en eh er before =
    let cut : drop k xs ≡ get_or xs k x ∷ drop (k + 1) xs = drop-cons xs k x lt ∙ ap (λ j. get_or xs k x ∷ drop j xs) (sym (add-one k)) in
    er ∙ ap (λ o. earlier o held) (eh ∙ ap (option_map (found k)) en)
    ∙ ap (earlier (option_map (found k) (f (get_or xs k x)))) (before ∙ ap (λ j. earliest j (map f (drop j xs))) ei)
    ∙ ap (λ ys. earliest k (map f ys)) (sym cut)

earlier_is : (a b : Option Found) (f : Found) → earlier a b ≡ Some f → (a ≡ Some f) ⊎ (b ≡ Some f)
earlier_is None b f e = inr e
earlier_is (Some a) None f e = inl e
earlier_is (Some a) (Some b) f e = which (is_before b.difference.at a.difference.at) a b f e
  where
    which : (t : Bool) (a b f : Found) → cond t (Some b) (Some a) ≡ Some f → (Some a ≡ Some f) ⊎ (Some b ≡ Some f)
    which true a b f e = inr e
    which false a b f e = inl e

earlier_none : (a b : Option Found) → earlier a b ≡ None → (a ≡ None) × (b ≡ None)
earlier_none None b e = (refl, e)
earlier_none (Some a) None e = absurd (let h : Some a ≡ None = e in cc)
earlier_none (Some a) (Some b) e = absurd (which (is_before b.difference.at a.difference.at) a b e)
  where
    which : (t : Bool) (a b : Found) → cond t (Some b) (Some a) ≡ None → ⊥
    which true a b e = let h : Some b ≡ None = e in cc
    which false a b e = let h : Some a ≡ None = e in cc

-- the earliest is the difference of some channel
pub earliest-some : (k : ℕ) (ds : List (Option PointDifference)) (f : Found) → earliest k ds ≡ Some f → (i : ℕ) × (f.channel ≡ k + i) × (slice_get ds i ≡ Some (Some f.difference))
earliest-some k [] f e = absurd (let h : None ≡ Some f = e in cc)
earliest-some k (d ∷ ds) f e =
    ⊎_elim
    (λ h. let r = here d h in (0, (let c = r.0 in omega arith), ap Some r.1))
    (λ h. let r = earliest-some (k + 1) ds f h in (suc r.0, (let c = r.1 in omega arith), r.2))
    (earlier_is (option_map (found k) d) (earliest (k + 1) ds) f e)
  where
    here : (d : Option PointDifference) → option_map (found k) d ≡ Some f → (f.channel ≡ k) × (d ≡ Some f.difference)
    here None h = absurd (let i : None ≡ Some f = h in cc)
    here (Some x) h = let i : found k x ≡ f = (let j : Some (found k x) ≡ Some f = h in cc) in (ap (λ (g : Found). g.channel) (sym i), ap (λ (g : Found). Some g.difference) i)

-- where there is no earliest, no channel has a difference
pub earliest-none : (k : ℕ) (ds : List (Option PointDifference)) → earliest k ds ≡ None → (d : Option PointDifference) → Has ds d → d ≡ None
earliest-none k [] e d h = absurd h
earliest-none k (x ∷ ds) e d h =
    let both = earlier_none (option_map (found k) x) (earliest (k + 1) ds) e in
    ⊎_elim (λ i. sym i ∙ gone x both.0) (λ i. earliest-none (k + 1) ds both.1 d i) h
  where
    gone : (y : Option PointDifference) → option_map (found k) y ≡ None → y ≡ None
    gone None h = refl
    gone (Some z) h = absurd (let j : Some (found k z) ≡ None = h in cc)
