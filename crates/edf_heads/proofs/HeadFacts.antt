-- The labels of the channels of a header, its free text, and channels that are alike in two headers.
use Rattle.std.proofs.Common.{◌≡◌, ◌≢◌, ℕ, suc, Bool, true, false, not, cond, List, [], ◌∷◌, map, filter, Bor, Option, Some, None, MatchOption, refl, sym, ap, ◌∙◌, subst, arith}
use Rattle.edf_header.proofs.ForCallers.{channels_distinct}
use Rattle.std.proofs.lemmas.List.Sorted.{IsPermutation-sym}
use Rattle.edf_fields.specs.Lists.{Has, is_one_of}
use Rattle.edf_fields.specs.Distinct.{AreDistinct}
use Rattle.edf_fields.proofs.ForCallers.{one_of-has, has-one_of, at-has, has-permutation, has-map, map-has, has-filtered, filtered-has, not-true}
use Rattle.edf_header.specs.signals.Channels.{channels_among, channel_labels}
use Rattle.edf_header.specs.signals.ChannelsReading.{is_ordinary, HasDistinctChannels}
use Rattle.edf_header.specs.Heads.{SignalHead, Head, is_annotations}
use Rattle.edf_header.specs.Sound.{IsSound}
use Rattle.edf_claim.specs.Claims.{IsClaim}
use Rattle.edf_claim.specs.ClaimValues.{ClaimValue}
use Rattle.edf_heads.specs.Blank.{HasNoTexts, IsBlank}
use Rattle.edf_heads.specs.differences.BlankDifference.{IsBlankHeader}
use Rattle.edf_heads.specs.Channels.{SameChannels, AllAlike}
use Rattle.edf_header.specs.signals.Channels.{IsChannelOf}
use Rattle.edf_heads.specs.differences.ChannelDifferences.{HasChannel, HasAll, IsLeastExtra, AreUnlike, IsFirstUnlike}
use Rattle.edf_heads.specs.Comparisons.{HasNoExtra, HasOnly, HasNoFreeText}
use Rattle.edf_heads.proofs.ContentFacts.{alike-differ}
use Rattle.edf_heads.proofs.ListFacts.{all-of, of-all, first-has, same-members}

-- ---- the labels of the channels of a header

labels-case : (b : Bool) (x : SignalHead) (xs : List SignalHead) (P : List (List ℕ) → Type 0)
    → (b ≡ true → P (map (λ s. s.label) xs)) → (b ≡ false → P (x.label ∷ map (λ s. s.label) xs)) → P (map (λ s. s.label) (cond (not b) (x ∷ xs) xs))
labels-case true x xs P f g = f refl
labels-case false x xs P f g = g refl

labels-of : (signals : List SignalHead) (l : List ℕ) → Has (channel_labels signals) l → (x : SignalHead) × Has signals x × ((x.label ≡ l) × (is_annotations l ≡ false))
labels-of signals l h =
    let m = map-has (λ (s : SignalHead). s.label) (channels_among signals) l h in
    let r = has-filtered is_ordinary signals m.0 m.1 in
    (m.0, r.0, (m.2, ap is_annotations (sym m.2) ∙ not-true (is_annotations m.0.label) r.1))

of-labels : (signals : List SignalHead) (x : SignalHead) (l : List ℕ) → Has signals x → (x.label ≡ l) × (is_annotations l ≡ false) → Has (channel_labels signals) l
of-labels signals x l h is =
    subst (Has (channel_labels signals)) is.0
    (has-map (λ (s : SignalHead). s.label) (channels_among signals) x (filtered-has is_ordinary signals x h (ap (λ m. not (is_annotations m)) is.0 ∙ ap not is.1)))

pub labels-distinct : (signals : List SignalHead) → HasDistinctChannels signals → AreDistinct (channel_labels signals)
labels-distinct [] d = tt
labels-distinct (x ∷ xs) d =
    labels-case (is_annotations x.label) x (channels_among xs) (λ ls. AreDistinct ls)
    (λ t. labels-distinct xs behind)
    (λ f. (λ h. let r = labels-of xs x.label h in let at = at-has xs r.0 r.1 in let e : 0 ≡ suc at.0 = d 0 (suc at.0) x.label (x, refl, (refl, f)) (r.0, at.1, r.2) in omega (arith, e), labels-distinct xs behind))
  where
    behind : HasDistinctChannels xs
    behind s t label a b = let e : suc s ≡ suc t = d (suc s) (suc t) label a b in omega (arith, e)

pub has-label : (h : Head) (l : List ℕ) → HasChannel h l → Has (channel_labels h.signals) l
has-label h l c = of-labels h.signals c.0 l c.1.there c.1.labelled

pub label-has : (h : Head) (l : List ℕ) → Has (channel_labels h.signals) l → HasChannel h l
label-has h l i = let r = labels-of h.signals l i in (r.0, record { there = r.1; labelled = r.2 })

-- ---- which channels the headers have

claimed-unless : (labels : List (List ℕ)) (l : List ℕ) → ((Has labels l → ⊥) → ⊥) → Has labels l
claimed-unless labels l h = unless-case (is_one_of labels l) refl
  where
    unless-case : (b : Bool) → is_one_of labels l ≡ b → Has labels l
    unless-case true t = one_of-has labels l t
    unless-case false f = absurd (h (λ i. let g : true ≡ false = sym (has-one_of labels l i) ∙ f in cc))

pub has_only : (h : Head) (claim : ClaimValue) → IsSound h → IsClaim claim → HasNoExtra h claim.channels → HasOnly h claim.channels
has_only h claim sound is none = λ there.
    same-members claim.channels (channel_labels h.signals) is.distinct_channels (labels-distinct h.signals (channels_distinct h.signals sound.standard.distinct))
    (λ l i. has-label h l (there l i))
    (λ l i. claimed-unless claim.channels l (λ out. none l (record { there = label-has h l i; unclaimed = out })))

pub only_said : (h : Head) (claim : ClaimValue) (o : Option (Bor (List ℕ))) → IsSound h → IsClaim claim
    → MatchOption o (HasNoExtra h claim.channels) (λ label. IsLeastExtra h claim.channels label.now) → MatchOption o (HasOnly h claim.channels) (λ label. IsLeastExtra h claim.channels label.now)
only_said h claim None sound is none = has_only h claim sound is none
only_said h claim (Some x) sound is extra = extra

pub same_channels : (o e : Head) (claim : ClaimValue) → HasAll o claim.channels → HasAll e claim.channels → HasOnly e claim.channels → SameChannels o e claim
same_channels o e claim there here only = record { in_original = there; in_export = only here }

pub in-export : (o e : Head) (claim : ClaimValue) → SameChannels o e claim → HasAll e claim.channels
in-export o e claim same l i = label-has e l (has-permutation claim.channels (channel_labels e.signals) l same.in_export i)

pub claimed-in : (o e : Head) (claim : ClaimValue) → SameChannels o e claim → (l : List ℕ) → HasChannel e l → Has claim.channels l
claimed-in o e claim same l c = has-permutation (channel_labels e.signals) claim.channels l (IsPermutation-sym claim.channels (channel_labels e.signals) same.in_export) (has-label e l c)

-- ---- free text

empty-unless : (xs : List ℕ) → (xs ≢ [] → ⊥) → xs ≡ []
empty-unless [] h = refl
empty-unless (x ∷ xs) h = absurd (h (λ e. let f : x ∷ xs ≡ [] = e in cc))

-- the header has no free text where its own has none, and no channel has any
pub blank-of : (h : Head) → IsBlankHeader h → ((l : List ℕ) (x : SignalHead) → IsChannelOf h l x → x.reserved ≡ []) → IsBlank h
blank-of h own channels = record {
  free = own.free;
  channels = all-of (λ (s : SignalHead). s.reserved ≡ []) (channels_among h.signals) (λ x i.
      let r = has-filtered is_ordinary h.signals x i in
      channels x.label x (record { there = r.0; labelled = (refl, not-true (is_annotations x.label) r.1) }));
  annotations = all-of HasNoTexts (filter (λ (s : SignalHead). is_annotations s.label) h.signals) (λ x i.
      let r = has-filtered (λ (s : SignalHead). is_annotations s.label) h.signals x i in
      own.annotations x r.0 r.1);
}

pub blank-header : (h : Head) → IsBlank h → IsBlankHeader h
blank-header h blank = record {
  free = blank.free;
  annotations = λ x there a.
      of-all HasNoTexts (filter (λ (s : SignalHead). is_annotations s.label) h.signals) blank.annotations x
      (filtered-has (λ (s : SignalHead). is_annotations s.label) h.signals x there a);
}

pub blank-channel : (h : Head) → IsBlank h → (l : List ℕ) (x : SignalHead) → IsChannelOf h l x → x.reserved ≡ []
blank-channel h blank l x c =
    of-all (λ (s : SignalHead). s.reserved ≡ []) (channels_among h.signals) blank.channels x
    (filtered-has is_ordinary h.signals x c.there (ap (λ m. not (is_annotations m)) c.labelled.0 ∙ ap not c.labelled.1))

pub is_blank : (o e : Head) (claim : ClaimValue) → SameChannels o e claim → IsBlankHeader e → HasNoFreeText e claim → IsBlank e
is_blank o e claim same blank none =
    blank-of e blank (λ l x c. empty-unless x.reserved (λ text. none l (claimed-in o e claim same l (x, c)) (x, c, text)))

-- ---- channels that are alike

pub unlike-alike : (Alike : SignalHead → SignalHead → Type 0) (o e : Head) (claim : ClaimValue) (l : List ℕ) → AllAlike Alike o e claim → IsFirstUnlike Alike o e claim l → ⊥
unlike-alike Alike o e claim l all first =
    let r = first-has (AreUnlike Alike o e) claim.channels l first in
    alike-differ Alike o e l (all l r.0) r.1
