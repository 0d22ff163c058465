-- What the layouts of two headers, and the channels that are claimed, tell of the signals.
use Rattle.std.proofs.Common.{◌≡◌, inl, inr, ℕ, pos, suc, ◌+◌, ◌<◌, not, true, false, List, [], ◌∷◌, length, filter, slice_get, Some, codes, All, arith, refl, ap, ◌∙◌, sym, subst}
use Rattle.std.proofs.lemmas.Int.{ints}
use Rattle.std.proofs.lemmas.List.Sorted.{IsPermutation-sym}
use Rattle.edf_claim.specs.ClaimValues.{ClaimValue}
use Rattle.edf_fields.specs.Lists.{Has}
use Rattle.edf_fields.specs.Parts.{text_of}
use Rattle.edf_fields.specs.declared.fields.layout.FixedField.TheVariants as fixed
use Rattle.edf_fields.specs.declared.fields.layout.SignalField.TheVariants as signal
use Rattle.edf_fields.specs.fields.LayoutReading.{fixed_part, columns_part, column_field}
use Rattle.edf_fields.specs.texts.Numbers.{SpellsWhole}
use Rattle.edf_fields.proofs.ForCallers.{at-has, has-at, has-filtered, filtered-has, has-permutation, map-has, has-map, get-within}
use Rattle.edf_header.specs.Conforming.{HeaderConforms}
use Rattle.edf_header.specs.Heads.{SignalHead, Head, HasSignal, is_annotations}
use Rattle.edf_header.specs.signals.Channels.{IsChannelOf, channels_among, channel_labels}
use Rattle.edf_header.proofs.ForCallers.{head_in_parts}
use Rattle.edf_heads.specs.Blank.{HasNoTexts, IsBlank}
use Rattle.edf_heads.specs.Calibrations.{HaveSameCalibration}
use Rattle.edf_heads.specs.Channels.{AllAlike, SameChannels}
use Rattle.edf_heads.specs.ChannelTexts.{HaveSameTexts}
use Rattle.edf_layout.specs.HeadLaws.{SignalTexts, texts_of, HasChannel, annotation_texts}
use Rattle.edf_layout.specs.HeadLayouts.{SignalLayout, HeadLayout, fixed_text, signal_layout, signal_layouts, head_layout_of}
use Rattle.edf_layout.specs.Spaces.{spaces_of}
use Rattle.edf_layout.proofs.ForCallers.{annotation-first, layout-at, layouts-long, other-first}
use Rattle.edf_one_export.proofs.SubfieldFacts.{subfields-counted}
use Rattle.edf_one_export.proofs.TextFacts.{bool-cases}

-- two lists of signals have the same labels, and as many samples, one by one
pub record AreAlike (hs gs : List SignalHead) : Type 0 where
  pub count : length hs ≡ length gs
  pub labels : (k : ℕ) (a b : SignalHead) → slice_get hs k ≡ Some a → slice_get gs k ≡ Some b → a.label ≡ b.label
  pub samples : (k : ℕ) (a b : SignalHead) → slice_get hs k ≡ Some a → slice_get gs k ≡ Some b → a.samples ≡ b.samples

one-number : (t u : List ℕ) (n m : ℕ) → t ≡ u → SpellsWhole t (pos n) → SpellsWhole u (pos m) → n ≡ m
one-number t u n m same h k =
    let own : SpellsWhole t (pos m) = subst (λ s. SpellsWhole s (pos m)) (sym same) k in
    let e : pos n ≡ pos m = h.2 ∙ sym own.2 in omega (arith, ints, e)

pub signals-alike : (file other : List ℕ) (h g : Head) → HeaderConforms file h → HeaderConforms other g → head_layout_of file h ≡ head_layout_of other g → AreAlike h.signals g.signals
unfolding head_layout_of
signals-alike file other h g c d layout =
    let n = length h.signals in
    let m = length g.signals in
    let xs = columns_part n file in
    let ys = columns_part m other in
    let lists : signal_layouts xs n 0 n ≡ signal_layouts ys m 0 m = ap (λ (l : HeadLayout). l.signals) layout in
    let count : n ≡ m = sym (layouts-long xs n 0 n) ∙ ap length lists ∙ layouts-long ys m 0 m in
    let even : signal_layouts xs n 0 n ≡ signal_layouts ys n 0 n = lists ∙ ap (λ k. signal_layouts ys k 0 k) (sym count) in
    let at : (k : ℕ) → k < n → signal_layout xs n k ≡ signal_layout ys n k =
    λ k low. subst (λ j. signal_layout xs n j ≡ signal_layout ys n j) (let e : 0 + k ≡ k = omega arith in e) (layout-at xs ys n 0 n even k low) in
    let one : (k : ℕ) (a : SignalHead) → slice_get h.signals k ≡ Some a → HasSignal (column_field xs n k) a = (head_in_parts file h c.head).signals in
    let two : (k : ℕ) (b : SignalHead) → slice_get g.signals k ≡ Some b → HasSignal (column_field ys n k) b =
    subst (λ j. (k : ℕ) (b : SignalHead) → slice_get g.signals k ≡ Some b → HasSignal (column_field ys j k) b) (sym count) (head_in_parts other g d.head).signals in
    record {
      count = count;
      labels = λ k a b e f. (one k a e).label ∙ ap (λ (l : SignalLayout). l.label) (at k (get-within h.signals k a e)) ∙ sym (two k b f).label;
      samples = λ k a b e f.
          one-number (text_of (column_field xs n k signal.Samples)) (text_of (column_field ys n k signal.Samples)) a.samples b.samples
          (ap (λ (l : SignalLayout). l.samples) (at k (get-within h.signals k a e))) (one k a e).samples (two k b f).samples;
    }

-- two headers with one layout have as many additional subfields
pub record AreAsMany (h g : Head) : Type 0 where
  pub patient : length h.patient.extras ≡ length g.patient.extras
  pub recording : length h.recording.extras ≡ length g.recording.extras

pub extras-as-many : (file other : List ℕ) (h g : Head) → HeaderConforms file h → HeaderConforms other g → head_layout_of file h ≡ head_layout_of other g → AreAsMany h g
unfolding head_layout_of
extras-as-many file other h g c d layout =
    let one = head_in_parts file h c.head in
    let two = head_in_parts other g d.head in
    let xs = fixed_part file in
    let ys = fixed_part other in
    let spaces : spaces_of (fixed_text xs fixed.Patient) ≡ spaces_of (fixed_text ys fixed.Patient) = ap (λ (l : HeadLayout). l.front.patient_spaces) layout in
    let more : spaces_of (fixed_text xs fixed.Recording) ≡ spaces_of (fixed_text ys fixed.Recording) = ap (λ (l : HeadLayout). l.front.recording_spaces) layout in
    let a = subfields-counted (h.patient.code ∷ h.patient.sex ∷ h.patient.birthdate ∷ h.patient.name ∷ h.patient.extras) (fixed_text xs fixed.Patient) (omega arith) ((one.patient).lists).subfields in
    let b = subfields-counted (g.patient.code ∷ g.patient.sex ∷ g.patient.birthdate ∷ g.patient.name ∷ g.patient.extras) (fixed_text ys fixed.Patient) (omega arith) ((two.patient).lists).subfields in
    let p = subfields-counted (codes "Startdate" ∷ h.recording.date ∷ h.recording.admin ∷ h.recording.technician ∷ h.recording.equipment ∷ h.recording.extras) (fixed_text xs fixed.Recording) (omega arith) ((one.recording).lists).subfields in
    let q = subfields-counted (codes "Startdate" ∷ g.recording.date ∷ g.recording.admin ∷ g.recording.technician ∷ g.recording.equipment ∷ g.recording.extras) (fixed_text ys fixed.Recording) (omega arith) ((two.recording).lists).subfields in
    let s = ap length spaces in
    let t = ap length more in
    record { patient = omega (arith, a, b, s); recording = omega (arith, p, q, t) }

-- ---- texts

texts-equal : (a b : SignalHead) → a.label ≡ b.label → a.transducer ≡ b.transducer → a.dimension ≡ b.dimension → a.prefilter ≡ b.prefilter → a.reserved ≡ b.reserved → texts_of a ≡ texts_of b
texts-equal a b l t d p r =
    let made : List ℕ → List ℕ → List ℕ → List ℕ → List ℕ → SignalTexts = λ label transducer dimension prefilter reserved. record { label = label; transducer = transducer; dimension = dimension; prefilter = prefilter; reserved = reserved } in
    ap (λ x. made x a.transducer a.dimension a.prefilter a.reserved) l ∙ ap (λ x. made b.label x a.dimension a.prefilter a.reserved) t
    ∙ ap (λ x. made b.label b.transducer x a.prefilter a.reserved) d ∙ ap (λ x. made b.label b.transducer b.dimension x a.reserved) p
    ∙ ap (λ x. made b.label b.transducer b.dimension b.prefilter x) r

-- what holds of all holds of each
all-has : (P : SignalHead → Type 0) (xs : List SignalHead) (x : SignalHead) → All P xs → Has xs x → P x
all-has P [] x h i = absurd i
all-has P (y ∷ ys) x h (inl e) = subst P e (h 0 x (omega arith))
all-has P (y ∷ ys) x h (inr i) = all-has P ys x (λ k d low. h (suc k) d (omega arith)) i

-- two exports of one original under one claim, by what their headers say of signals
pub record AreTwinHeads (o h g : Head) (claim : ClaimValue) : Type 0 where
  pub channels : SameChannels o h claim
  pub more_channels : SameChannels o g claim
  pub texts : AllAlike HaveSameTexts o h claim
  pub more_texts : AllAlike HaveSameTexts o g claim
  pub calibrations : AllAlike HaveSameCalibration o h claim
  pub more_calibrations : AllAlike HaveSameCalibration o g claim
  pub blank : IsBlank h
  pub more_blank : IsBlank g

pub turned-twins : (o h g : Head) (claim : ClaimValue) → AreTwinHeads o h g claim → AreTwinHeads o g h claim
turned-twins o h g claim t = record {
  channels = t.more_channels;
  more_channels = t.channels;
  texts = t.more_texts;
  more_texts = t.texts;
  calibrations = t.more_calibrations;
  more_calibrations = t.calibrations;
  blank = t.more_blank;
  more_blank = t.blank;
}

-- a channel is among the channels, and none of them holds annotations
no-annotations : (s : SignalHead) → not (is_annotations s.label) ≡ true → is_annotations s.label ≡ false
no-annotations s h = elim (bool-cases (is_annotations s.label)) [
  | inl e ↦ absurd (let both : false ≡ true = sym (ap not e) ∙ h in cc)
  | inr e ↦ e
]

-- each channel of one has its like in the other
pub channel-there : (o h g : Head) (claim : ClaimValue) → AreTwinHeads o h g claim → (texts : SignalTexts) → HasChannel h.signals texts → HasChannel g.signals texts
channel-there o h g claim t texts has =
    let a : SignalHead = has.1 in
    let among : Has (channels_among h.signals) a = filtered-has (λ s. not (is_annotations s.label)) h.signals a (has-at h.signals has.0 a has.2) (ap not has.3) in
    let label : Has (channel_labels h.signals) a.label = has-map (λ (s : SignalHead). s.label) (channels_among h.signals) a among in
    let claimed : Has claim.channels a.label = has-permutation (channel_labels h.signals) claim.channels a.label (IsPermutation-sym claim.channels (channel_labels h.signals) (t.channels).in_export) label in
    let there = map-has (λ (s : SignalHead). s.label) (channels_among g.signals) a.label (has-permutation claim.channels (channel_labels g.signals) a.label (t.more_channels).in_export claimed) in
    let b : SignalHead = there.0 in
    let passed = has-filtered (λ s. not (is_annotations s.label)) g.signals b there.1 in
    let place = at-has g.signals b passed.0 in
    let source = (t.channels).in_original a.label claimed in
    let one : IsChannelOf h a.label a = record { there = has-at h.signals has.0 a has.2; labelled = (refl, has.3) } in
    let two : IsChannelOf g a.label b = record { there = passed.0; labelled = (there.2, has.3) } in
    let left = t.texts a.label claimed source.0 a source.1 one in
    let right = t.more_texts a.label claimed source.0 b source.1 two in
    let unit = (t.calibrations a.label claimed source.0 a source.1 one).dimension in
    let units = (t.more_calibrations a.label claimed source.0 b source.1 two).dimension in
    let free : a.reserved ≡ [] = all-has (λ s. s.reserved ≡ []) (channels_among h.signals) a (t.blank).channels among in
    let none : b.reserved ≡ [] = all-has (λ s. s.reserved ≡ []) (channels_among g.signals) b (t.more_blank).channels there.1 in
    (place.0, b, place.1, no-annotations b passed.1, texts-equal b a there.2 (sym right.0 ∙ left.0) (sym units ∙ unit) (sym right.1 ∙ left.1) (none ∙ sym free) ∙ has.4)

-- ---- annotation signals

no-texts-same : (a b : SignalHead) → a.label ≡ b.label → HasNoTexts a → HasNoTexts b → texts_of a ≡ texts_of b
no-texts-same a b label h k = texts-equal a b label (h.transducer ∙ sym k.transducer) (h.dimension ∙ sym k.dimension) (h.prefilter ∙ sym k.prefilter) (h.reserved ∙ sym k.reserved)

abbrev AreBlank : List SignalHead → Type 0
AreBlank hs = (a : SignalHead) → Has hs a → is_annotations a.label ≡ true → HasNoTexts a

annotations-same : (hs gs : List SignalHead) → length hs ≡ length gs → ((k : ℕ) (a b : SignalHead) → slice_get hs k ≡ Some a → slice_get gs k ≡ Some b → a.label ≡ b.label)
    → AreBlank hs → AreBlank gs → annotation_texts hs ≡ annotation_texts gs
annotations-same [] [] count alike p q = refl
annotations-same [] (y ∷ ys) count alike p q = absurd (omega arith)
annotations-same (x ∷ xs) [] count alike p q = absurd (omega arith)
annotations-same (x ∷ xs) (y ∷ ys) count alike p q =
    let label : x.label ≡ y.label = alike 0 x y refl refl in
    let rest : annotation_texts xs ≡ annotation_texts ys =
    annotations-same xs ys (omega arith) (λ k a b. alike (suc k) a b) (λ a i. p a (inr i)) (λ b i. q b (inr i)) in
    elim (bool-cases (is_annotations x.label)) [
      | inl one ↦
          let two : is_annotations y.label ≡ true = sym (ap is_annotations label) ∙ one in
          annotation-first x xs one ∙ ap (λ t. t ∷ annotation_texts xs) (no-texts-same x y label (p x (inl refl) one) (q y (inl refl) two))
          ∙ ap (λ r. texts_of y ∷ r) rest ∙ sym (annotation-first y ys two)
      | inr none ↦
          let two : is_annotations y.label ≡ false = sym (ap is_annotations label) ∙ none in
          other-first x xs none ∙ rest ∙ sym (other-first y ys two)
    ]

blank-each : (h : Head) → IsBlank h → AreBlank h.signals
blank-each h b a i e = all-has HasNoTexts (filter (λ s. is_annotations s.label) h.signals) a b.annotations (filtered-has (λ s. is_annotations s.label) h.signals a i e)

pub annotation-texts-same : (h g : Head) → AreAlike h.signals g.signals → IsBlank h → IsBlank g → annotation_texts h.signals ≡ annotation_texts g.signals
annotation-texts-same h g alike p q = annotations-same h.signals g.signals alike.count alike.labels (blank-each h p) (blank-each g q)
