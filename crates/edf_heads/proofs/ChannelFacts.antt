-- Channels found by their labels.
use Rattle.std.proofs.Common.{◌≡◌, ◌≢◌, ℕ, ◌<◌, true, false, not, ◌&&◌, List, length, get_or, map, filter, Option, Some, None, option_map, slice_get, IfSome, MatchOption, Ok, Err, inl, inr, refl, sym, ap, ◌∙◌, subst, arith}
use Rattle.edf_header.proofs.ForCallers.{channels_distinct}
use Rattle.std.specs.Cmp.Lexicographic.{slice_cmp}
use Rattle.std.specs.List.Sorted.{IsBinarySearchResult, IsPermutation}
use Rattle.std.specs.Ordering.{nat_cmp, is_eq}
use Rattle.std.specs.Str.{bytes_eq}
use Rattle.std.proofs.lemmas.Bool.{cases_lt}
use Rattle.std.proofs.lemmas.Cmp.{nat_list_cmp_total}
use Rattle.std.proofs.lemmas.List.Sorted.{searchable_from_sorted, IsPermutation-sym, IsPermutation-map}
use Rattle.std.proofs.lemmas.Slice.Eq.{bytes_eq-Decides}
use Rattle.edf_fields.specs.Lists.{Has}
use Rattle.edf_fields.proofs.ForCallers.{and-true, not-true, at-has, get-index, get-within, has-map, map-has, has-permutation, has-filtered, filtered-has, find-none, find-some}
use Rattle.edf_header.specs.signals.ChannelsReading.{is_channel_of, is_ordinary}
use Rattle.edf_header.specs.Heads.{SignalHead, Head, is_annotations}
use Rattle.edf_header.specs.Sound.{IsSound}
use Rattle.edf_header.specs.signals.Channels.{IsChannelOf}
use Rattle.edf_heads.specs.differences.ChannelDifferences.{HasNoChannel}
use Rattle.edf_heads.specs.ChannelIndexes.{IsAmong, AreAmong, IsChannelAt, AreByLabel, IsChannelIndex}
use Rattle.edf_heads.specs.Comparisons.{channel_of}
use Rattle.edf_heads.specs.declared.channel_index.Channel.{Channel}
use Rattle.edf_heads.proofs.LabelFacts.{equal-tested, same-label}
use Rattle.edf_heads.proofs.ListFacts.{has-get}

-- ---- one channel of a sorted list

-- what a search for a label answers
abbrev pub Answers : List Channel → List ℕ → Option Channel → Type 0
Answers sorted label o = MatchOption o ((x : SignalHead) → Has (map (λ c. c.signal.now) sorted) x → x.label ≢ label) (λ c. Has sorted c × ((c.signal.now).label ≡ label))

pub label_there : (sorted : List Channel) (label : List ℕ) (i : ℕ) (d : Channel) (x : Channel) → x ≡ get_or sorted i d
    → IsBinarySearchResult (λ y. slice_cmp nat_cmp y.signal.now.label label) sorted (Ok i) → i < length sorted
    → Has sorted x × ((x.signal.now).label ≡ label)
label_there sorted label i d x is h lt = (
  subst (λ (y : Channel). Has sorted y) (sym is) (has-get sorted i d lt),
  ap (λ (y : Channel). (y.signal.now).label) is ∙ same-label (get_or sorted i d).signal.now.label label (h d),
)

pub label_nowhere : (sorted : List (Channel)) (label : List ℕ) (i : ℕ) → AreByLabel sorted
    → IsBinarySearchResult (λ y. slice_cmp nat_cmp y.signal.now.label label) sorted (Err i)
    → (x : SignalHead) → Has (map (λ s. s.signal.now) sorted) x → x.label ≢ label
label_nowhere sorted label i up h x there same =
    let parts = h (searchable_from_sorted nat_list_cmp_total (λ (s : Channel). s.signal.now.label) sorted label up) in
    let m = map-has (λ (s : Channel). s.signal.now) sorted x there in
    let at = at-has sorted m.0 m.1 in
    let within : at.0 < length sorted = get-within sorted at.0 m.0 at.1 in
    let here : get_or sorted at.0 m.0 ≡ m.0 = get-index sorted at.0 m.0 m.0 at.1 in
    let label-here : (get_or sorted at.0 m.0).signal.now.label ≡ label = ap (λ (s : Channel). s.signal.now.label) here ∙ ap (λ (s : SignalHead). s.label) m.2 ∙ same in
    let tie : is_eq (slice_cmp nat_cmp (get_or sorted at.0 m.0).signal.now.label label) ≡ true =
    equal-tested (get_or sorted at.0 m.0).signal.now.label label ∙ (bytes_eq-Decides (get_or sorted at.0 m.0).signal.now.label label).1 label-here in
    elim (cases_lt at.0 i) [
      | inl before ↦ let f : true ≡ false = sym tie ∙ ap is_eq (parts.0 at.0 m.0 (omega arith) before) in cc
      | inr behind ↦ let f : true ≡ false = sym tie ∙ ap is_eq (parts.1 at.0 m.0 behind within) in cc
    ]

-- ---- the channel of a label in a header

pub channel-tested : (h : Head) (label : List ℕ) (x : SignalHead) → Has h.signals x → is_channel_of label x ≡ true → IsChannelOf h label x
channel-tested h label x there t =
    let both = and-true (bytes_eq x.label label) (not (is_annotations x.label)) t in
    let same : x.label ≡ label = (bytes_eq-Decides x.label label).0 both.0 in
    record { there = there; labelled = (same, ap is_annotations (sym same) ∙ not-true (is_annotations x.label) both.1) }

pub tested-channel : (h : Head) (label : List ℕ) (x : SignalHead) → IsChannelOf h label x → is_channel_of label x ≡ true
tested-channel h label x c =
    ap (λ b. b && not (is_annotations x.label)) ((bytes_eq-Decides x.label label).1 c.labelled.0) ∙ ap (λ l. not (is_annotations l)) c.labelled.0 ∙ ap not c.labelled.1

-- a sound header has one channel of a label at most
pub one-channel : (h : Head) (label : List ℕ) (x y : SignalHead) → IsSound h → IsChannelOf h label x → IsChannelOf h label y → x ≡ y
one-channel h label x y sound c d =
    let i = at-has h.signals x c.there in
    let j = at-has h.signals y d.there in
    let same : i.0 ≡ j.0 = channels_distinct h.signals sound.standard.distinct i.0 j.0 label (x, i.1, c.labelled) (y, j.1, d.labelled) in
    let e : Some x ≡ Some y = sym i.1 ∙ ap (slice_get h.signals) same ∙ j.1 in
    cc

pub channel-some : (h : Head) (label : List ℕ) (x : SignalHead) → channel_of label h.signals ≡ Some x → IsChannelOf h label x
channel-some h label x e = let r = find-some (is_channel_of label) h.signals x e in channel-tested h label x r.0 r.1

pub channel-none : (h : Head) (label : List ℕ) → channel_of label h.signals ≡ None → HasNoChannel h label
channel-none h label e c =
    let f : true ≡ false = sym (tested-channel h label c.0 c.1) ∙ find-none (is_channel_of label) h.signals e c.0 c.1.there in
    cc

pub channel-is : (h : Head) (label : List ℕ) (x : SignalHead) → IsSound h → IsChannelOf h label x → channel_of label h.signals ≡ Some x
channel-is h label x sound c = is-case (channel_of label h.signals) refl
  where
    is-case : (o : Option SignalHead) → channel_of label h.signals ≡ o → o ≡ Some x
    is-case None e = absurd (channel-none h label e (x, c))
    is-case (Some y) e = ap Some (one-channel h label y x sound (channel-some h label y e) c)

-- what is found among the sorted channels is the channel of the label
pub channel_found : (h : Head) (sorted : List Channel) (label : List ℕ) (o : Option Channel) → IsChannelIndex h sorted → Answers sorted label o
    → option_map (λ c. c.signal.now) o ≡ channel_of label h.signals
channel_found h sorted label None index nowhere = none-case (channel_of label h.signals) refl
  where
    none-case : (o : Option SignalHead) → channel_of label h.signals ≡ o → None ≡ o
    none-case None e = refl
    none-case (Some y) e =
        let c = channel-some h label y e in
        let ordinary : is_ordinary y ≡ true = ap (λ l. not (is_annotations l)) c.labelled.0 ∙ ap not c.labelled.1 in
        absurd (nowhere y (has-permutation (filter is_ordinary h.signals) (map (λ (s : Channel). s.signal.now) sorted) y index.same (filtered-has is_ordinary h.signals y c.there ordinary)) c.labelled.0)
channel_found h sorted label (Some x) index found =
    let y = x.signal.now in
    let all = map (λ (s : Channel). s.signal.now) sorted in
    let back = has-permutation all (filter is_ordinary h.signals) y (IsPermutation-sym (filter is_ordinary h.signals) all index.same) (has-map (λ (s : Channel). s.signal.now) sorted x found.0) in
    let r = has-filtered is_ordinary h.signals y back in
    let c : IsChannelOf h label y = record { there = r.0; labelled = (found.1, ap is_annotations (sym found.1) ∙ not-true (is_annotations y.label) r.1) } in
    sym (channel-is h label y index.sound c)

pub channel_there : (h : Head) (sorted : List Channel) (label : List ℕ) (o : Option Channel) → IsChannelIndex h sorted → Answers sorted label o → IfSome o (IsChannelAt h)
channel_there h sorted label None index nowhere = tt
channel_there h sorted label (Some x) index found = index.among x found.0

pub channel_named : (h : Head) (sorted : List Channel) (label : List ℕ) (o : Option Channel) → IsChannelIndex h sorted → Answers sorted label o
    → MatchOption o (HasNoChannel h label) (λ c. (c.signal.now).label ≡ label)
channel_named h sorted label None index nowhere = channel-none h label (sym (channel_found h sorted label None index nowhere))
channel_named h sorted label (Some x) index found = found.1

-- the channels of a header, once they are sorted
pub index-is : (h : Head) (signals : List SignalHead) (before after : List Channel) → signals ≡ h.signals → IsSound h → map (λ c. c.signal.now) before ≡ filter is_ordinary signals
    → AreAmong signals before → IsPermutation before after → AreByLabel after → IsChannelIndex h after
index-is h signals before after are sound same among p up = record {
  sound = sound;
  order = up;
  same = subst (λ (xs : List SignalHead). IsPermutation xs (map (λ (x : Channel). x.signal.now) after)) (same ∙ ap (filter is_ordinary) are) (IsPermutation-map (λ (x : Channel). x.signal.now) before after p);
  among = λ c i. subst (λ (ss : List SignalHead). IsAmong ss c) are (among c (has-permutation after before c (IsPermutation-sym before after p) i));
}
