-- All rules of two headers that are broken: what is found is what is broken. The rows of each rule stand in KindFacts.
use Rattle.std.proofs.Common.{◌≡◌, ◌↔◌, ◌⊎◌, ℕ, Bool, true, false, not, ◌&&◌, List, [], ◌∷◌, ◌++◌, inl, inr, ⊎_elim, refl, sym, ap, ◌∙◌, subst, ◌+◌, ◌<◌, ◌≤◌, length, drop, get_or, Option, Some, None, MatchOption, add-one}
use Rattle.std.proofs.Math.Seq.{drop-cons}
use Rattle.std.proofs.lemmas.List.{append-nil, append_assoc, drop_all}
use Rattle.edf_fields.specs.declared.fields.which.Which.{Which}
use Rattle.edf_fields.specs.Lists.{Has, is_one_of}
use Rattle.edf_fields.proofs.ForCallers.{and-true, both-true, has-append, has-back, has-front, has-one_of, not-true, one_of-has}
use Rattle.edf_header.specs.Heads.{SignalHead, Head, is_annotations}
use Rattle.edf_header.specs.signals.Channels.{IsChannelOf}
use Rattle.edf_heads.specs.Comparisons.{Claimed, Compared, broken_at, broken_by, breaks, named_at, named_if, named_some, unclaimed_in, IsAsClaimedIn, IsBrokenAmong, IsMismatchIn}
use Rattle.edf_heads.proofs.OneHeadFacts.{one-side}
use Rattle.edf_heads.specs.differences.ChannelDifferences.{IsExtra}
use Rattle.edf_heads.specs.declared.rules.ChannelRule.{ChannelRule}
use Rattle.edf_verdict.specs.declared.verdict.Difference.{Difference}
use Rattle.edf_verdict.specs.declared.verdict.Difference.TheVariants.{ExtraChannel, Subfield}
use Rattle.edf_verdict.specs.declared.verdict.SubfieldMismatch.{SubfieldMismatch}

-- ---- a rule that is named if it is broken

pub named-held : (P : Difference → Type 0) (b : Bool) (named rule : Difference) → (b ≡ true → P named) → Has (named_if b named) rule → P rule
named-held P true named rule f h = ⊎_elim (λ e. subst P e (f refl)) (λ i. absurd i) h
named-held P false named rule f h = absurd h

pub held-named : (b : Bool) (rule : Difference) → (b ≡ false → ⊥) → Has (named_if b rule) rule
held-named true rule h = inl refl
held-named false rule h = absurd (h refl)

-- ---- the rules that the channels of a label break

pub at-held : (P : Difference → Type 0) (rules : List ChannelRule) (c : Claimed) (rule : Difference) → ((r : ChannelRule) → breaks r c ≡ true → P (named_at r c.label)) → Has (broken_at rules c) rule → P rule
at-held P [] c rule f h = absurd h
at-held P (r ∷ rules) c rule f h =
    ⊎_elim (named-held P (breaks r c) (named_at r c.label) rule (f r)) (at-held P rules c rule f) (has-append (named_if (breaks r c) (named_at r c.label)) (broken_at rules c) rule h)

pub held-at : (rules : List ChannelRule) (c : Claimed) (r : ChannelRule) → Has rules r → (breaks r c ≡ false → ⊥) → Has (broken_at rules c) (named_at r c.label)
held-at [] c r there t = absurd there
held-at (q ∷ rules) c r there t =
    ⊎_elim
    (λ e.
    let P : ChannelRule → Type 0 = λ x. Has (named_if (breaks x c) (named_at x c.label) ++ broken_at rules c) (named_at r c.label) in
    subst P (sym e) (has-front (named_if (breaks r c) (named_at r c.label)) (broken_at rules c) (named_at r c.label) (held-named (breaks r c) (named_at r c.label) t)))
    (λ i. has-back (named_if (breaks q c) (named_at q c.label)) (broken_at rules c) (named_at r c.label) (held-at rules c r i t)) there

pub by-held : (P : Difference → Type 0) (rules : List ChannelRule) (cs : List Claimed) (rule : Difference) → ((c : Claimed) → Has cs c → Has (broken_at rules c) rule → P rule) → Has (broken_by rules cs) rule → P rule
by-held P rules [] rule f h = absurd h
by-held P rules (c ∷ cs) rule f h =
    ⊎_elim (λ i. f c (inl refl) i) (λ i. by-held P rules cs rule (λ d there j. f d (inr there) j) i) (has-append (broken_at rules c) (broken_by rules cs) rule h)

pub held-by : (rules : List ChannelRule) (cs : List Claimed) (c : Claimed) (rule : Difference) → Has cs c → Has (broken_at rules c) rule → Has (broken_by rules cs) rule
held-by rules [] c rule there h = absurd there
held-by rules (d ∷ cs) c rule there h =
    ⊎_elim (λ e. has-front (broken_at rules d) (broken_by rules cs) rule (let P : Claimed → Type 0 = λ x. Has (broken_at rules x) rule in subst P (sym e) h))
    (λ i. has-back (broken_at rules d) (broken_by rules cs) rule (held-by rules cs c rule i h)) there

-- ---- channels that aren't claimed

abbrev is-extra : List (List ℕ) → SignalHead → Bool
is-extra labels x = not (is_annotations x.label) && not (is_one_of labels x.label)

signal-extra : (e : Head) (labels : List (List ℕ)) (x : SignalHead) → Has e.signals x → is-extra labels x ≡ true → IsExtra e labels x.label
signal-extra e labels x there t =
    let both = and-true (not (is_annotations x.label)) (not (is_one_of labels x.label)) t in
    record {
      there = (x, record { there = there; labelled = (refl, not-true (is_annotations x.label) both.0) });
      unclaimed = λ has. let f : true ≡ false = sym (has-one_of labels x.label has) ∙ not-true (is_one_of labels x.label) both.1 in cc;
    }

pub unclaimed-held : (P : Difference → Type 0) (e : Head) (labels : List (List ℕ)) (xs : List SignalHead) (rule : Difference) → ((x : SignalHead) → Has xs x → Has e.signals x) → ((l : List ℕ) → IsExtra e labels l → P (ExtraChannel l))
    → Has (unclaimed_in labels xs) rule → P rule
unclaimed-held P e labels [] rule among f h = absurd h
unclaimed-held P e labels (x ∷ xs) rule among f h =
    ⊎_elim (named-held P (is-extra labels x) (ExtraChannel x.label) rule (λ t. f x.label (signal-extra e labels x (among x (inl refl)) t)))
    (λ i. unclaimed-held P e labels xs rule (λ y j. among y (inr j)) f i)
    (has-append (named_if (is-extra labels x) (ExtraChannel x.label)) (unclaimed_in labels xs) rule h)

found-unclaimed : (labels : List (List ℕ)) (xs : List SignalHead) (x : SignalHead) → Has xs x → is-extra labels x ≡ true → Has (unclaimed_in labels xs) (ExtraChannel x.label)
found-unclaimed labels [] x there t = absurd there
found-unclaimed labels (y ∷ ys) x there t =
    ⊎_elim
    (λ q.
    let P : SignalHead → Type 0 = λ z. Has (named_if (is-extra labels z) (ExtraChannel z.label) ++ unclaimed_in labels ys) (ExtraChannel x.label) in
    subst P (sym q)
    (has-front (named_if (is-extra labels x) (ExtraChannel x.label)) (unclaimed_in labels ys) (ExtraChannel x.label)
    (held-named (is-extra labels x) (ExtraChannel x.label) (λ f. let g : true ≡ false = sym t ∙ f in cc))))
    (λ i. has-back (named_if (is-extra labels y) (ExtraChannel y.label)) (unclaimed_in labels ys) (ExtraChannel x.label) (found-unclaimed labels ys x i t)) there

pub held-unclaimed : (e : Head) (labels : List (List ℕ)) (l : List ℕ) → IsExtra e labels l → Has (unclaimed_in labels e.signals) (ExtraChannel l)
held-unclaimed e labels l extra =
    let x = extra.there.0 in
    let c = extra.there.1 in
    let P : List ℕ → Type 0 = λ k. Has (unclaimed_in labels e.signals) (ExtraChannel k) in
    subst P c.labelled.0 (found-unclaimed labels e.signals x c.there (both-true (not (is_annotations x.label)) (not (is_one_of labels x.label)) (ordinary x c) (apart x c)))
  where
    ordinary : (x : SignalHead) → IsChannelOf e l x → not (is_annotations x.label) ≡ true
    ordinary x c = ap (λ m. not (is_annotations m)) c.labelled.0 ∙ ap not c.labelled.1

    apart : (x : SignalHead) → IsChannelOf e l x → not (is_one_of labels x.label) ≡ true
    apart x c = apart-case (is_one_of labels x.label) refl
      where
        apart-case : (b : Bool) → is_one_of labels x.label ≡ b → not b ≡ true
        apart-case true t = absurd (extra.unclaimed (let P : List ℕ → Type 0 = λ k. Has labels k in subst P c.labelled.0 (one_of-has labels x.label t)))
        apart-case false f = refl

-- ---- what was found, and then what is left

pub taken_in : (after before here rest whole all : List Difference) → after ≡ before ++ here → whole ≡ here ++ rest → before ++ whole ≡ all → after ++ rest ≡ all
taken_in after before here rest whole all e f g = ap (λ ds. ds ++ rest) e ∙ append_assoc before here rest ∙ ap (λ ds. before ++ ds) (sym f) ∙ g

-- ---- subfields

more-among : (c : Compared) (w : Which) (ws : List Which) (rule : Difference) → IsBrokenAmong c ws rule → IsBrokenAmong c (w ∷ ws) rule
more-among c w ws (Subfield v m) h = (inr h.0, h.1)
more-among c w ws rule h = h

less-among : (c : Compared) (w : Which) (ws : List Which) (rule : Difference) → IsAsClaimedIn c w → IsBrokenAmong c (w ∷ ws) rule → IsBrokenAmong c ws rule
less-among c w ws (Subfield v m) is (inl e, b) = absurd (b.0 (subst (λ (u : Which). IsAsClaimedIn c u) e is))
less-among c w ws (Subfield v m) is (inr i, b) = (i, b)
less-among c w ws rule is h = h

-- a subfield that isn't as claimed is said in one way
one-among : (c : Compared) (w : Which) (m : SubfieldMismatch) (ws : List Which) (rule : Difference) → IsMismatchIn c w m → IsBrokenAmong c (w ∷ ws) rule → (Subfield w m ≡ rule) ⊎ IsBrokenAmong c ws rule
one-among c w m ws (Subfield v n) is (inl e, b) =
    let back : IsMismatchIn c w n = subst (λ (u : Which). IsMismatchIn c u n) (sym e) b in
    let same : m ≡ n = one-side c.claim w m n is.1 back.1 in
    inl (ap (λ (u : Which). Subfield u m) e ∙ ap (λ (x : SubfieldMismatch). Subfield v x) same)
one-among c w m ws (Subfield v n) is (inr i, b) = inr (i, b)
one-among c w m ws rule is h = absurd h

here-among : (c : Compared) (w : Which) (m : SubfieldMismatch) (ws : List Which) (rule : Difference) → IsMismatchIn c w m → Subfield w m ≡ rule → IsBrokenAmong c (w ∷ ws) rule
here-among c w m ws rule is e = subst (λ (r : Difference). IsBrokenAmong c (w ∷ ws) r) e (inl refl, is)

taken-some : (c : Compared) (w : Which) (ws : List Which) (r : Option SubfieldMismatch) (before after : List Difference) → MatchOption r (IsAsClaimedIn c w) (IsMismatchIn c w) → after ≡ before ++ named_some w r
    → (rule : Difference) → (Has after rule ⊎ IsBrokenAmong c ws rule) ↔ (Has before rule ⊎ IsBrokenAmong c (w ∷ ws) rule)
taken-some c w ws None before after is e rule = (
  λ h. ⊎_elim (λ i. inl (subst (λ (ds : List Difference). Has ds rule) same i)) (λ i. inr (more-among c w ws rule i)) h,
  λ h. ⊎_elim (λ i. inl (subst (λ (ds : List Difference). Has ds rule) (sym same) i)) (λ i. inr (less-among c w ws rule is i)) h,
)
  where
    same : after ≡ before
    same = e ∙ append-nil before
taken-some c w ws (Some m) before after is e rule = (
  λ h.
      ⊎_elim
      (λ i.
      ⊎_elim (λ j. inl j) (λ j. inr (⊎_elim (λ q. here-among c w m ws rule is q) (λ k. absurd k) j))
      (has-append before (Subfield w m ∷ []) rule (subst (λ (ds : List Difference). Has ds rule) e i)))
      (λ i. inr (more-among c w ws rule i)) h,
  λ h.
      ⊎_elim (λ i. inl (subst (λ (ds : List Difference). Has ds rule) (sym e) (has-front before (Subfield w m ∷ []) rule i)))
      (λ i.
      ⊎_elim (λ q. inl (subst (λ (ds : List Difference). Has ds rule) (sym e) (has-back before (Subfield w m ∷ []) rule (inl q)))) (λ j. inr j)
      (one-among c w m ws rule is i))
      h,
)

pub subfield_step : (c : Compared) (ws : List Which) (i : ℕ) (d w : Which) (r : Option SubfieldMismatch) (first before after : List Difference) → i < length ws → get_or ws i d ≡ w → MatchOption r (IsAsClaimedIn c w) (IsMismatchIn c w)
    → after ≡ before ++ named_some w r → ((rule : Difference) → (Has before rule ⊎ IsBrokenAmong c (drop i ws) rule) ↔ (Has first rule ⊎ IsBrokenAmong c ws rule))
    → (rule : Difference) → (Has after rule ⊎ IsBrokenAmong c (drop (i + 1) ws) rule) ↔ (Has first rule ⊎ IsBrokenAmong c ws rule)
subfield_step c ws i d w r first before after lt here is e h rule =
    let cut : drop i ws ≡ w ∷ drop (i + 1) ws = drop-cons ws i d lt ∙ ap (λ k. get_or ws i d ∷ drop k ws) (sym (add-one i)) ∙ ap (λ (x : Which). x ∷ drop (i + 1) ws) here in
    let taken = taken-some c w (drop (i + 1) ws) r before after is e rule in
    let inv = subst (λ (xs : List Which). (Has before rule ⊎ IsBrokenAmong c xs rule) ↔ (Has first rule ⊎ IsBrokenAmong c ws rule)) cut (h rule) in
    (λ x. inv.0 (taken.0 x), λ x. taken.1 (inv.1 x))

pub subfields_end : (c : Compared) (ws : List Which) (i : ℕ) (first after : List Difference) → length ws ≤ i
    → ((rule : Difference) → (Has after rule ⊎ IsBrokenAmong c (drop i ws) rule) ↔ (Has first rule ⊎ IsBrokenAmong c ws rule)) → (rule : Difference) → Has after rule ↔ (Has first rule ⊎ IsBrokenAmong c ws rule)
subfields_end c ws i first after le h rule =
    let inv = subst (λ (xs : List Which). (Has after rule ⊎ IsBrokenAmong c xs rule) ↔ (Has first rule ⊎ IsBrokenAmong c ws rule)) (drop_all i ws le) (h rule) in
    (λ x. inv.0 (inl x), λ x. ⊎_elim (λ y. y) (λ y. absurd (nowhere rule y)) (inv.1 x))
  where
    nowhere : (r : Difference) → IsBrokenAmong c [] r → ⊥
    nowhere (Subfield w m) b = b.0
    nowhere r b = b
