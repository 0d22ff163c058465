-- The channels of a claim, in words.
use Rattle.std.proofs.Common.{◌≡◌, ℕ, ◌+◌, suc, Bool, true, false, cond, not, List, [], ◌∷◌, get_or, map, filter, find, Bor, Option, Some, None, option_map, is_none, MatchOption, ⊎_elim, refl, sym, ap, ◌∙◌, subst, arith}
use Rattle.std.specs.Ordering.{nat_cmp, is_lt}
use Rattle.std.specs.Cmp.Lexicographic.{slice_cmp}
use Rattle.std.proofs.lemmas.Cmp.{nat_list_cmp_total}
use Rattle.std.proofs.lemmas.List.Sorted.{IsPermutation-sym, sorted_far, ranks_by}
use Rattle.edf_fields.specs.Lists.{Has, is_one_of}
use Rattle.edf_fields.proofs.ForCallers.{has-one_of, one_of-has, not-true, at-has, get-index, get-within, map-has, has-permutation, has-filtered, filtered-has, find-none, find-some}
use Rattle.edf_header.specs.Heads.{SignalHead, Head, is_annotations}
use Rattle.edf_header.specs.signals.Channels.{IsChannelOf}
use Rattle.edf_heads.specs.differences.ChannelDifferences.{HasChannel, HasAll, HasNoChannel, IsLeastExtra}
use Rattle.edf_heads.specs.ChannelIndexes.{AreByLabel, IsChannelIndex}
use Rattle.edf_heads.specs.declared.channel_index.Channel.{Channel}
use Rattle.edf_heads.specs.Comparisons.{channel_of, Claimed, claimed_of, AreSorted, HasNoExtra}
use Rattle.edf_header.specs.signals.ChannelsReading.{is_ordinary}
use Rattle.edf_heads.specs.Firsts.{IsFirstWith}
use Rattle.edf_heads.specs.Labels.{IsNotAbove}
use Rattle.edf_heads.proofs.ChannelFacts.{channel-some, channel-none}
use Rattle.edf_heads.proofs.LabelFacts.{not_below}
use Rattle.edf_heads.proofs.ListFacts.{first-found}

-- a test of labels that are looked up is one of the labels
pub find-claimed : (o e : List SignalHead) (test : Claimed → Bool) (labels : List (List ℕ))
    → option_map (λ (c : Claimed). c.label) (find test (map (claimed_of o e) labels)) ≡ find (λ l. test (claimed_of o e l)) labels
find-claimed o e test [] = refl
find-claimed o e test (l ∷ ls) = claimed-case (test (claimed_of o e l)) (find-claimed o e test ls)
  where
    claimed-case : (b : Bool) → option_map (λ (c : Claimed). c.label) (find test (map (claimed_of o e) ls)) ≡ find (λ m. test (claimed_of o e m)) ls
        → option_map (λ (c : Claimed). c.label) (cond b (Some (claimed_of o e l)) (find test (map (claimed_of o e) ls))) ≡ cond b (Some l) (find (λ m. test (claimed_of o e m)) ls)
    claimed-case true h = refl
    claimed-case false h = h

-- what holds of a label that was found holds of the one that the code gives
pub said-of : (Nothing : Type 0) (P : List ℕ → Type 0) (o : Option (Bor (List ℕ))) (found : Option (List ℕ)) → option_map (λ label. label.now) o ≡ found → MatchOption found Nothing P → MatchOption o Nothing (λ label. P label.now)
said-of Nothing P None None e h = h
said-of Nothing P None (Some x) e h = absurd (let f : None ≡ Some x = e in cc)
said-of Nothing P (Some x) None e h = absurd (let f : Some x.now ≡ None = e in cc)
said-of Nothing P (Some x) (Some y) e h = let same : x.now ≡ y = (let f : Some x.now ≡ Some y = e in cc) in subst P (sym same) h

pub absent-first : (h : Head) (labels : List (List ℕ)) → MatchOption (find (λ l. is_none (channel_of l h.signals)) labels) (HasAll h labels) (IsFirstWith (HasNoChannel h) labels)
absent-first h labels =
    first-found (λ l. is_none (channel_of l h.signals)) (HasNoChannel h) (HasChannel h) labels
    (λ l there t. channel-none h l (none-is (channel_of l h.signals) t))
    (λ l there f. let x = some-is (channel_of l h.signals) f in (x.0, channel-some h l x.0 x.1))
    (λ l there none. none there)
  where
    none-is : (o : Option SignalHead) → is_none o ≡ true → o ≡ None
    none-is None t = refl
    none-is (Some x) t = absurd (let f : false ≡ true = t in cc)

    some-is : (o : Option SignalHead) → is_none o ≡ false → (x : SignalHead) × (o ≡ Some x)
    some-is None f = absurd (let g : true ≡ false = f in cc)
    some-is (Some x) f = (x, refl)

-- ---- a channel that isn't claimed

-- of a sorted list the first that passes has the least label of those that pass
first-is-least : (test : SignalHead → Bool) (sorted : List (Channel)) (x : SignalHead) → AreByLabel sorted → find test (map (λ s. s.signal.now) sorted) ≡ Some x
    → (y : SignalHead) → Has (map (λ s. s.signal.now) sorted) y → test y ≡ true → IsNotAbove x.label y.label
first-is-least test [] x up found y there passes = absurd there
first-is-least test (z ∷ zs) x up found y there passes = least-case (test z.signal.now) refl found (λ e i. first-is-least test zs x tail e y i passes)
  where
    tail : AreByLabel zs
    tail k d low high = let e : suc k + 1 ≡ suc (k + 1) = omega arith in rw e at (up (suc k) d (omega arith) (omega (arith, high)))

    least-case : (b : Bool) → test z.signal.now ≡ b → cond b (Some z.signal.now) (find test (map (λ s. s.signal.now) zs)) ≡ Some x
        → (find test (map (λ s. s.signal.now) zs) ≡ Some x → Has (map (λ s. s.signal.now) zs) y → IsNotAbove x.label y.label) → IsNotAbove x.label y.label
    least-case true t e more =
        let same : z.signal.now ≡ x = (let f : Some z.signal.now ≡ Some x = e in cc) in
        let m = map-has (λ (s : Channel). s.signal.now) (z ∷ zs) y there in
        let at = at-has (z ∷ zs) m.0 m.1 in
        let far = sorted_far (λ (a b : Channel). is_lt (slice_cmp nat_cmp a.signal.now.label b.signal.now.label)) (ranks_by nat_list_cmp_total (λ (s : Channel). s.signal.now.label)) (z ∷ zs) up 0 at.0 z (omega arith) (get-within (z ∷ zs) at.0 m.0 at.1) in
        let here : (get_or (z ∷ zs) at.0 z).signal.now.label ≡ y.label = ap (λ (s : Channel). s.signal.now.label) (get-index (z ∷ zs) at.0 m.0 z at.1) ∙ ap (λ (s : SignalHead). s.label) m.2 in
        let apart : is_lt (slice_cmp nat_cmp y.label x.label) ≡ false =
        ap (λ l. is_lt (slice_cmp nat_cmp l x.label)) (sym here) ∙ ap (λ (s : SignalHead). is_lt (slice_cmp nat_cmp (get_or (z ∷ zs) at.0 z).signal.now.label s.label)) (sym same) ∙ far in
        not_below x.label y.label apart
    least-case false f e more =
        ⊎_elim (λ q. absurd (let P : SignalHead → Type 0 = λ s. test s ≡ true in let t : test z.signal.now ≡ true = subst P (sym q) passes in let g : true ≡ false = sym t ∙ f in cc))
        (λ i. more e i) there

-- the channels of a header and the sorted ones are the same
indexed : (h : Head) (sorted : List (Channel)) (label : List ℕ) (x : SignalHead) → IsChannelIndex h sorted → IsChannelOf h label x → Has (map (λ s. s.signal.now) sorted) x
indexed h sorted label x index c =
    has-permutation (filter is_ordinary h.signals) (map (λ (s : Channel). s.signal.now) sorted) x index.same
    (filtered-has is_ordinary h.signals x c.there (ap (λ l. not (is_annotations l)) c.labelled.0 ∙ ap not c.labelled.1))

of-index : (h : Head) (sorted : List (Channel)) (x : SignalHead) → IsChannelIndex h sorted → Has (map (λ s. s.signal.now) sorted) x → IsChannelOf h x.label x
of-index h sorted x index there =
    let r = has-filtered is_ordinary h.signals x (has-permutation (map (λ (s : Channel). s.signal.now) sorted) (filter is_ordinary h.signals) x (IsPermutation-sym (filter is_ordinary h.signals) (map (λ (s : Channel). s.signal.now) sorted) index.same) there) in
    record { there = r.0; labelled = (refl, not-true (is_annotations x.label) r.1) }

-- the label of the signal is none of these
abbrev pub other_than : List (Bor (List ℕ)) → SignalHead → Bool
other_than claimed s = not (is_one_of (map (λ t. t.now) claimed) s.label)

other-unclaimed : (labels : List (List ℕ)) (claimed : List (Bor (List ℕ))) → AreSorted labels claimed → (s : SignalHead) → other_than claimed s ≡ true → Has labels s.label → ⊥
other-unclaimed labels claimed is s t there =
    let f : is_one_of labels s.label ≡ false = sym (is.same s.label) ∙ not-true (is_one_of (map (λ (u : Bor (List ℕ)). u.now) claimed) s.label) t in
    let g : true ≡ false = sym (has-one_of labels s.label there) ∙ f in
    cc

unclaimed-other : (labels : List (List ℕ)) (claimed : List (Bor (List ℕ))) → AreSorted labels claimed → (s : SignalHead) (label : List ℕ) → s.label ≡ label → (Has labels label → ⊥) → other_than claimed s ≡ true
unclaimed-other labels claimed is s label same out = other-case (is_one_of labels s.label) refl
  where
    other-case : (b : Bool) → is_one_of labels s.label ≡ b → not (is_one_of (map (λ t. t.now) claimed) s.label) ≡ true
    other-case true t = absurd (out (let P : List ℕ → Type 0 = λ l. Has labels l in subst P same (one_of-has labels s.label t)))
    other-case false f = ap not (is.same s.label ∙ f)

pub extra_said : (h : Head) (sorted seen : List (Channel)) (claimed : List (Bor (List ℕ))) (r : Option (Bor (List ℕ))) (labels : List (List ℕ)) → IsChannelIndex h sorted → seen ≡ sorted → AreSorted labels claimed
    → option_map (λ label. label.now) r ≡ option_map (λ (s : SignalHead). s.label) (find (other_than claimed) (map (λ s. s.signal.now) seen))
    → MatchOption r (HasNoExtra h labels) (λ label. IsLeastExtra h labels label.now)
extra_said h sorted seen claimed r labels index all is same =
    said-of (HasNoExtra h labels) (IsLeastExtra h labels) r (option_map (λ (s : SignalHead). s.label) (find (other_than claimed) (map (λ (s : Channel). s.signal.now) sorted)))
    (same ∙ ap (λ (ss : List (Channel)). option_map (λ (s : SignalHead). s.label) (find (other_than claimed) (map (λ (s : Channel). s.signal.now) ss))) all)
    (extra-case (find (other_than claimed) (map (λ (s : Channel). s.signal.now) sorted)) refl)
  where
    extra-case : (o : Option SignalHead) → find (other_than claimed) (map (λ s. s.signal.now) sorted) ≡ o → MatchOption (option_map (λ (s : SignalHead). s.label) o) (HasNoExtra h labels) (IsLeastExtra h labels)
    extra-case None e = λ label x.
        let c = x.there in
        let passes = unclaimed-other labels claimed is c.0 label c.1.labelled.0 x.unclaimed in
        let f : true ≡ false = sym passes ∙ find-none (other_than claimed) (map (λ (s : Channel). s.signal.now) sorted) e c.0 (indexed h sorted label c.0 index c.1) in
        cc
    extra-case (Some x) e =
        let found = find-some (other_than claimed) (map (λ (s : Channel). s.signal.now) sorted) x e in
        let c = of-index h sorted x index found.0 in
        record {
          extra = record { there = (x, c); unclaimed = other-unclaimed labels claimed is x found.1 };
          least = λ label y.
              let d = y.there in
              subst (IsNotAbove x.label) d.1.labelled.0
              (first-is-least (other_than claimed) sorted x index.order e d.0 (indexed h sorted label d.0 index d.1) (unclaimed-other labels claimed is d.0 label d.1.labelled.0 y.unclaimed));
        }
