-- What a header says and its layout give its bytes.
use Rattle.std.proofs.Common.{◌≡◌, ◌↔◌, ◌⊎◌, inl, inr, ℕ, pos, zero, suc, Bool, true, false, ◌+◌, ◌*◌, ◌<◌, ◌≤◌, List, [], ◌∷◌, ◌++◌, length, take, drop, slice_get, Some, None, codes, arith, refl, ap, ◌∙◌, sym, subst}
use Rattle.edf_fields.specs.texts.Numbers.{SpellsWhole, SpellsDecimal}
use Rattle.std.proofs.Math.Seq.{take-add}
use Rattle.std.proofs.lemmas.List.{length-take, length-drop, take-append-drop}
use Rattle.edf_fields.specs.Parts.{part, text_of}
use Rattle.edf_fields.specs.texts.Dates.{NamesClockTime}
use Rattle.edf_fields.specs.texts.Identifications.{Patient, Recording, SaysPatient, SaysRecording}
use Rattle.edf_fields.specs.declared.fields.layout.FixedField.{FixedField}
use Rattle.edf_fields.specs.declared.fields.layout.FixedField.TheVariants as fixed
use Rattle.edf_fields.specs.declared.fields.layout.SignalField.{SignalField}
use Rattle.edf_fields.specs.declared.fields.layout.SignalField.TheVariants as signal
use Rattle.edf_fields.specs.fields.Layout.{fixed_field}
use Rattle.edf_fields.specs.fields.LayoutReading.{fixed_part, columns_part, column_field}
use Rattle.edf_header.specs.Conforming.{HeaderConforms}
use Rattle.edf_header.specs.Heads.{SignalHead, Head, HasSignal, NamesStartdate, kind_word, is_annotations}
use Rattle.edf_header.specs.signals.ChannelsReading.{IsChannel, HasDistinctChannels}
use Rattle.edf_header.proofs.ForCallers.{one_head, HeadInParts, head_in_parts, head_from_parts, in_parts, channels_distinct}
use Rattle.edf_layout.specs.HeadLayouts.{SignalLayout, HeadLayout, fixed_text, signal_layout, signal_layouts, layout_in, head_layout_of}
use Rattle.edf_layout.specs.HeadLaws.{SignalTexts, texts_of, HasChannel, annotation_texts, SayTheSame, header_of, LayoutIsTheRest}
use Rattle.edf_layout.specs.Spaces.{spaces_of}
use Rattle.edf_layout.proofs.FieldFacts.{text-same, fixed-same, columns-same}
use Rattle.edf_layout.proofs.SpacesFacts.{spaced-same}
use Rattle.edf_layout.proofs.StartFacts.{startdate-same, starttime-same}

-- how long the parts of a header are
part-long : (xs : List ℕ) (at n : ℕ) → at + n ≤ length xs → length (part xs at n) ≡ n
part-long xs at n fits = let a = length-take n (drop at xs) in let b = length-drop at xs in omega arith

pub front-long : (file : List ℕ) (h : Head) → HeaderConforms file h → length (fixed_part file) ≡ 256
front-long file h c = let whole = c.whole in part-long file 0 256 (omega arith)

pub columns-long : (file : List ℕ) (h : Head) → HeaderConforms file h → length (columns_part (length h.signals) file) ≡ 256 * length h.signals
columns-long file h c = let whole = c.whole in part-long file 256 (256 * length h.signals) (omega arith)

-- fields of one length with one text
pub field-same : (xs ys : List ℕ) (at n : ℕ) → at + n ≤ length xs → at + n ≤ length ys → text_of (part xs at n) ≡ text_of (part ys at n) → part xs at n ≡ part ys at n
field-same xs ys at n fits fit same = text-same (part xs at n) (part ys at n) (part-long xs at n fits ∙ sym (part-long ys at n fit)) same

-- a field that begins with one word, and has one text behind it
worded-same : (xs ys word : List ℕ) → length xs ≡ 44 → length ys ≡ 44 → take 5 xs ≡ take 5 ys → text_of (drop 5 xs) ≡ text_of (drop 5 ys) → xs ≡ ys
worded-same xs ys word long other first rest =
    let behind : drop 5 xs ≡ drop 5 ys = text-same (drop 5 xs) (drop 5 ys) (let a = length-drop 5 xs in let b = length-drop 5 ys in omega arith) rest in
    sym (take-append-drop 5 xs) ∙ ap (λ t. t ++ drop 5 xs) first ∙ ap (λ t. take 5 ys ++ t) behind ∙ take-append-drop 5 ys

patient-same : (t u : List ℕ) (p q : Patient) → SaysPatient t p → SaysPatient u q → p ≡ q → spaces_of (text_of t) ≡ spaces_of (text_of u) → text_of t ≡ text_of u
patient-same t u p q h k e same =
    let other : SaysPatient u p = subst (λ r. SaysPatient u r) (sym e) k in
    spaced-same (p.code ∷ p.sex ∷ p.birthdate ∷ p.name ∷ p.extras) (text_of t) (text_of u) (h.lists).subfields (other.lists).subfields same

recording-same : (t u : List ℕ) (p q : Recording) → SaysRecording t p → SaysRecording u q → p ≡ q → spaces_of (text_of t) ≡ spaces_of (text_of u) → text_of t ≡ text_of u
recording-same t u p q h k e same =
    let other : SaysRecording u p = subst (λ r. SaysRecording u r) (sym e) k in
    spaced-same (codes "Startdate" ∷ p.date ∷ p.admin ∷ p.technician ∷ p.equipment ∷ p.extras) (text_of t) (text_of u) (h.lists).subfields (other.lists).subfields same

-- the texts of the fixed fields but for the reserved one
fixed-text-same : (file other : List ℕ) (h g : Head) → HeaderConforms file h → HeaderConforms other g → SayTheSame h g
    → layout_in (fixed_part file) (length h.signals) (columns_part (length h.signals) file) ≡ layout_in (fixed_part other) (length g.signals) (columns_part (length g.signals) other)
    → (field : FixedField) → fixed_field (fixed_part file) field ≡ fixed_field (fixed_part other) field
fixed-text-same file other h g c d same layout field =
    let xs = fixed_part file in
    let ys = fixed_part other in
    let long = front-long file h c in
    let less = front-long other g d in
    let one = in_parts file h c in
    let two = in_parts other g d in
    elim field as (λ k. fixed_field xs k ≡ fixed_field ys k) [
      | fixed.Version ↦ field-same xs ys 0 8 (omega arith) (omega arith) (one.version ∙ sym two.version)
      | fixed.Patient ↦ field-same xs ys 8 80 (omega arith) (omega arith)
          (patient-same (fixed_field xs fixed.Patient) (fixed_field ys fixed.Patient) h.patient g.patient (one.head).patient (two.head).patient same.patient (ap (λ (l : HeadLayout). l.front.patient_spaces) layout))
      | fixed.Recording ↦ field-same xs ys 88 80 (omega arith) (omega arith)
          (recording-same (fixed_field xs fixed.Recording) (fixed_field ys fixed.Recording) h.recording g.recording (one.head).recording (two.head).recording same.recording (ap (λ (l : HeadLayout). l.front.recording_spaces) layout))
      | fixed.Startdate ↦ field-same xs ys 168 8 (omega arith) (omega arith)
          (startdate-same (fixed_text xs fixed.Startdate) (fixed_text ys fixed.Startdate) (h.recording).date (g.recording).date h.day (one.head).day
          (subst (λ day. NamesStartdate (fixed_text ys fixed.Startdate) (g.recording).date day) (sym same.day) (two.head).day))
      | fixed.Starttime ↦ field-same xs ys 176 8 (omega arith) (omega arith)
          (starttime-same (fixed_text xs fixed.Starttime) (fixed_text ys fixed.Starttime) h.clock (one.head).clock (subst (λ s. NamesClockTime (fixed_text ys fixed.Starttime) s) (sym same.clock) (two.head).clock))
      | fixed.HeaderBytes ↦ field-same xs ys 184 8 (omega arith) (omega arith) (ap (λ (l : HeadLayout). l.front.size) layout)
      | fixed.Reserved ↦ worded-same (fixed_field xs fixed.Reserved) (fixed_field ys fixed.Reserved) [] (part-long xs 192 44 (omega arith)) (part-long ys 192 44 (omega arith))
          (ap (λ (l : HeadLayout). l.front.kind) layout) (sym (one.head).free ∙ same.free ∙ (two.head).free)
      | fixed.Records ↦ field-same xs ys 236 8 (omega arith) (omega arith) (ap (λ (l : HeadLayout). l.front.records) layout)
      | fixed.Duration ↦ field-same xs ys 244 8 (omega arith) (omega arith) (ap (λ (l : HeadLayout). l.front.duration) layout)
      | fixed.Signals ↦ field-same xs ys 252 4 (omega arith) (omega arith) (ap (λ (l : HeadLayout). l.front.count) layout)
    ]

-- a Bool is one of two
bool-cases : (b : Bool) → (b ≡ true) ⊎ (b ≡ false)
bool-cases true = inl refl
bool-cases false = inr refl

pub get-some : (xs : List SignalHead) (k : ℕ) → k < length xs → (x : SignalHead) × (slice_get xs k ≡ Some x)
get-some [] k low = absurd (omega arith)
get-some (x ∷ xs) zero low = (x, refl)
get-some (x ∷ xs) (suc k) low = get-some xs k (omega arith)

some-same : (x y : SignalHead) → Some x ≡ Some y → x ≡ y
some-same x y e = cc

-- the layouts of signals, one by one
pub layouts-long : (bytes : List ℕ) (n s m : ℕ) → length (signal_layouts bytes n s m) ≡ m
layouts-long bytes n s zero = refl
layouts-long bytes n s (suc m) = ap suc (layouts-long bytes n (s + 1) m)

cons-same : (a b : SignalLayout) (us vs : List SignalLayout) → a ∷ us ≡ b ∷ vs → (a ≡ b) × (us ≡ vs)
cons-same a b us vs h = (cc, cc)

pub layout-at : (xs ys : List ℕ) (n s m : ℕ) → signal_layouts xs n s m ≡ signal_layouts ys n s m → (k : ℕ) → k < m → signal_layout xs n (s + k) ≡ signal_layout ys n (s + k)
layout-at xs ys n s zero same k low = absurd (omega arith)
layout-at xs ys n s (suc m) same zero low =
    subst (λ j. signal_layout xs n j ≡ signal_layout ys n j) (let e : s ≡ s + 0 = omega arith in e)
    (cons-same (signal_layout xs n s) (signal_layout ys n s) (signal_layouts xs n (s + 1) m) (signal_layouts ys n (s + 1) m) same).0
layout-at xs ys n s (suc m) same (suc k) low =
    subst (λ j. signal_layout xs n j ≡ signal_layout ys n j) (let e : s + 1 + k ≡ s + suc k = omega arith in e)
    (layout-at xs ys n (s + 1) m (cons-same (signal_layout xs n s) (signal_layout ys n s) (signal_layouts xs n (s + 1) m) (signal_layouts ys n (s + 1) m) same).1 k (omega arith))

-- two lists of signals have the same labels in the same order
abbrev AreLabelledAlike : List SignalHead → List SignalHead → Type 0
AreLabelledAlike hs gs = (k : ℕ) (a b : SignalHead) → slice_get hs k ≡ Some a → slice_get gs k ≡ Some b → a.label ≡ b.label

pub annotation-first : (x : SignalHead) (xs : List SignalHead) → is_annotations x.label ≡ true → annotation_texts (x ∷ xs) ≡ texts_of x ∷ annotation_texts xs
annotation-first x xs h = rw h refl

pub other-first : (x : SignalHead) (xs : List SignalHead) → is_annotations x.label ≡ false → annotation_texts (x ∷ xs) ≡ annotation_texts xs
other-first x xs h = rw h refl

texts-first : (a b : SignalTexts) (us vs : List SignalTexts) → a ∷ us ≡ b ∷ vs → (a ≡ b) × (us ≡ vs)
texts-first a b us vs h = (cc, cc)

annotation-same : (hs gs : List SignalHead) → AreLabelledAlike hs gs → annotation_texts hs ≡ annotation_texts gs
    → (k : ℕ) (a b : SignalHead) → slice_get hs k ≡ Some a → slice_get gs k ≡ Some b → is_annotations a.label ≡ true → texts_of a ≡ texts_of b
annotation-same [] gs alike same k a b e f h = absurd (let z : None ≡ Some a = e in cc)
annotation-same (x ∷ xs) [] alike same k a b e f h = absurd (let z : None ≡ Some b = f in cc)
annotation-same (x ∷ xs) (y ∷ ys) alike same zero a b e f h =
    let is : x ≡ a = some-same x a e in
    let too : y ≡ b = some-same y b f in
    let one : is_annotations x.label ≡ true = ap (λ (z : SignalHead). is_annotations z.label) is ∙ h in
    let two : is_annotations y.label ≡ true = sym (ap is_annotations (alike 0 x y refl refl)) ∙ one in
    ap texts_of (sym is) ∙ (texts-first (texts_of x) (texts_of y) (annotation_texts xs) (annotation_texts ys) (sym (annotation-first x xs one) ∙ same ∙ annotation-first y ys two)).0 ∙ ap texts_of too
annotation-same (x ∷ xs) (y ∷ ys) alike same (suc k) a b e f h =
    let label : x.label ≡ y.label = alike 0 x y refl refl in
    let rest : annotation_texts xs ≡ annotation_texts ys → texts_of a ≡ texts_of b = λ less. annotation-same xs ys (λ j c d. alike (suc j) c d) less k a b e f h in
    elim (bool-cases (is_annotations x.label)) [
      | inl one ↦
          let two : is_annotations y.label ≡ true = sym (ap is_annotations label) ∙ one in
          rest (texts-first (texts_of x) (texts_of y) (annotation_texts xs) (annotation_texts ys) (sym (annotation-first x xs one) ∙ same ∙ annotation-first y ys two)).1
      | inr none ↦
          let two : is_annotations y.label ≡ false = sym (ap is_annotations label) ∙ none in
          rest (sym (other-first x xs none) ∙ same ∙ other-first y ys two)
    ]

-- the channels of one label in two lists of signals
channel-same : (hs gs : List SignalHead) → HasDistinctChannels gs → AreLabelledAlike hs gs → ((texts : SignalTexts) → HasChannel hs texts ↔ HasChannel gs texts)
    → (k : ℕ) (a b : SignalHead) → slice_get hs k ≡ Some a → slice_get gs k ≡ Some b → is_annotations a.label ≡ false → texts_of a ≡ texts_of b
channel-same hs gs distinct alike same k a b e f h =
    let there : HasChannel gs (texts_of a) = (same (texts_of a)).0 (k, a, e, h, refl) in
    let t : ℕ = there.0 in
    let c : SignalHead = there.1 in
    let label : c.label ≡ a.label = ap (λ (texts : SignalTexts). texts.label) there.4 in
    let first : IsChannel gs t a.label = (c, there.2, (label, h)) in
    let second : IsChannel gs k a.label = (b, f, (sym (alike k a b e f), h)) in
    let at : t ≡ k = distinct t k a.label first second in
    let is : c ≡ b = some-same c b (sym there.2 ∙ ap (λ j. slice_get gs j) at ∙ f) in
    sym there.4 ∙ ap texts_of is

texts-same : (hs gs : List SignalHead) → HasDistinctChannels gs → AreLabelledAlike hs gs → ((texts : SignalTexts) → HasChannel hs texts ↔ HasChannel gs texts) → annotation_texts hs ≡ annotation_texts gs
    → (k : ℕ) (a b : SignalHead) → slice_get hs k ≡ Some a → slice_get gs k ≡ Some b → texts_of a ≡ texts_of b
texts-same hs gs distinct alike channels annotations k a b e f = elim (bool-cases (is_annotations a.label)) [
  | inl one ↦ annotation-same hs gs alike annotations k a b e f one
  | inr none ↦ channel-same hs gs distinct alike channels k a b e f none
]

-- the fields of one signal
signal-fields-same : (xs ys : List ℕ) (n s : ℕ) (a b : SignalHead) → length xs ≡ 256 * n → length ys ≡ 256 * n → s < n → HasSignal (column_field xs n s) a → HasSignal (column_field ys n s) b
    → texts_of a ≡ texts_of b → signal_layout xs n s ≡ signal_layout ys n s → (field : SignalField) → column_field xs n s field ≡ column_field ys n s field
signal-fields-same xs ys n s a b long less low h k texts layout field =
    elim field as (λ f. column_field xs n s f ≡ column_field ys n s f) [
      | signal.Label ↦ field-same xs ys (0 * n + 16 * s) 16 (omega arith) (omega arith) (ap (λ (l : SignalLayout). l.label) layout)
      | signal.Transducer ↦ field-same xs ys (16 * n + 80 * s) 80 (omega arith) (omega arith) (sym h.transducer ∙ ap (λ (t : SignalTexts). t.transducer) texts ∙ k.transducer)
      | signal.Dimension ↦ field-same xs ys (96 * n + 8 * s) 8 (omega arith) (omega arith) (sym h.dimension ∙ ap (λ (t : SignalTexts). t.dimension) texts ∙ k.dimension)
      | signal.PhysicalMinimum ↦ field-same xs ys (104 * n + 8 * s) 8 (omega arith) (omega arith) (ap (λ (l : SignalLayout). l.physical_minimum) layout)
      | signal.PhysicalMaximum ↦ field-same xs ys (112 * n + 8 * s) 8 (omega arith) (omega arith) (ap (λ (l : SignalLayout). l.physical_maximum) layout)
      | signal.DigitalMinimum ↦ field-same xs ys (120 * n + 8 * s) 8 (omega arith) (omega arith) (ap (λ (l : SignalLayout). l.digital_minimum) layout)
      | signal.DigitalMaximum ↦ field-same xs ys (128 * n + 8 * s) 8 (omega arith) (omega arith) (ap (λ (l : SignalLayout). l.digital_maximum) layout)
      | signal.Prefilter ↦ field-same xs ys (136 * n + 80 * s) 80 (omega arith) (omega arith) (sym h.prefilter ∙ ap (λ (t : SignalTexts). t.prefilter) texts ∙ k.prefilter)
      | signal.Samples ↦ field-same xs ys (216 * n + 8 * s) 8 (omega arith) (omega arith) (ap (λ (l : SignalLayout). l.samples) layout)
      | signal.Reserved ↦ field-same xs ys (224 * n + 32 * s) 32 (omega arith) (omega arith) (sym h.reserved ∙ ap (λ (t : SignalTexts). t.reserved) texts ∙ k.reserved)
    ]

-- the columns of as many signals
columns-alike : (xs ys : List ℕ) (hs gs : List SignalHead) (n : ℕ) → length hs ≡ n → length gs ≡ n → length xs ≡ 256 * n → length ys ≡ 256 * n
    → ((s : ℕ) (a : SignalHead) → slice_get hs s ≡ Some a → HasSignal (column_field xs n s) a) → ((s : ℕ) (b : SignalHead) → slice_get gs s ≡ Some b → HasSignal (column_field ys n s) b)
    → HasDistinctChannels gs → ((texts : SignalTexts) → HasChannel hs texts ↔ HasChannel gs texts) → annotation_texts hs ≡ annotation_texts gs
    → signal_layouts xs n 0 n ≡ signal_layouts ys n 0 n → xs ≡ ys
columns-alike xs ys hs gs n count counts long less has have distinct channels annotations layout =
    let at : (s : ℕ) → s < n → signal_layout xs n s ≡ signal_layout ys n s =
    λ s low. subst (λ j. signal_layout xs n j ≡ signal_layout ys n j) (let e : 0 + s ≡ s = omega arith in e) (layout-at xs ys n 0 n layout s low) in
    let alike : AreLabelledAlike hs gs = λ k a b e f.
    (has k a e).label ∙ ap (λ (l : SignalLayout). l.label) (at k (below hs k a n count e)) ∙ sym (have k b f).label in
    columns-same xs ys n long less (λ s low field.
    let a = get-some hs s (omega arith) in
    let b = get-some gs s (omega arith) in
    signal-fields-same xs ys n s a.0 b.0 long less low (has s a.0 a.1) (have s b.0 b.1) (texts-same hs gs distinct alike channels annotations s a.0 b.0 a.1 b.1) (at s low) field)
  where
    within : (xs : List SignalHead) (k : ℕ) (a : SignalHead) → slice_get xs k ≡ Some a → k < length xs
    within [] k a e = absurd (let z : None ≡ Some a = e in cc)
    within (x ∷ xs) zero a e = omega arith
    within (x ∷ xs) (suc k) a e = let low = within xs k a e in omega arith

    below : (xs : List SignalHead) (k : ℕ) (a : SignalHead) (n : ℕ) → length xs ≡ n → slice_get xs k ≡ Some a → k < n
    below xs k a n count e = let low = within xs k a e in omega arith

-- a header is its fixed part and its columns
whole-header : (file : List ℕ) (h : Head) → header_of file h ≡ fixed_part file ++ columns_part (length h.signals) file
whole-header file h =
    ap (λ n. take n file) (let e : 256 * (length h.signals + 1) ≡ 256 + 256 * length h.signals = omega arith in e)
    ∙ take-add 256 (256 * length h.signals) file

-- the layout and what is said give the bytes
layout-gives : (file other : List ℕ) (h g : Head) → HeaderConforms file h → HeaderConforms other g → SayTheSame h g
    → layout_in (fixed_part file) (length h.signals) (columns_part (length h.signals) file) ≡ layout_in (fixed_part other) (length g.signals) (columns_part (length g.signals) other)
    → header_of file h ≡ header_of other g
layout-gives file other h g c d same layout =
    let n = length h.signals in
    let m = length g.signals in
    let xs = columns_part n file in
    let ys = columns_part m other in
    let lists : signal_layouts xs n 0 n ≡ signal_layouts ys m 0 m = ap (λ (l : HeadLayout). l.signals) layout in
    let count : n ≡ m = sym (layouts-long xs n 0 n) ∙ ap length lists ∙ layouts-long ys m 0 m in
    let front : fixed_part file ≡ fixed_part other = fixed-same (fixed_part file) (fixed_part other) (front-long file h c) (front-long other g d) (fixed-text-same file other h g c d same layout) in
    let columns : xs ≡ ys =
    columns-alike xs ys h.signals g.signals n refl (sym count) (columns-long file h c) (columns-long other g d ∙ ap (λ k. 256 * k) (sym count))
    (head_in_parts file h c.head).signals (subst (λ k. (s : ℕ) (b : SignalHead) → slice_get g.signals s ≡ Some b → HasSignal (column_field (columns_part m other) k s) b) (sym count) (head_in_parts other g d.head).signals)
    (channels_distinct g.signals (d.standard).distinct) same.channels same.annotations (lists ∙ ap (λ k. signal_layouts ys k 0 k) (sym count)) in
    whole-header file h ∙ ap (λ f. f ++ xs) front ∙ ap (λ r. fixed_part other ++ r) columns ∙ sym (whole-header other g)

-- the bytes give both
append-same : (us vs xs ys : List ℕ) → length us ≡ length vs → us ++ xs ≡ vs ++ ys → (us ≡ vs) × (xs ≡ ys)
append-same [] [] xs ys long e = (refl, e)
append-same [] (b ∷ vs) xs ys long e = absurd (omega arith)
append-same (a ∷ us) [] xs ys long e = absurd (omega arith)
append-same (a ∷ us) (b ∷ vs) xs ys long e =
    let first : a ≡ b = cc in
    let rest : us ++ xs ≡ vs ++ ys = cc in
    let more = append-same us vs xs ys (omega arith) rest in
    (ap (λ c. c ∷ us) first ∙ ap (λ r. b ∷ r) more.0, more.1)

has-head-too : (file other : List ℕ) (h : Head) → fixed_part file ≡ fixed_part other → columns_part (length h.signals) file ≡ columns_part (length h.signals) other → HeadInParts file h → HeadInParts other h
has-head-too file other h front columns has = record {
  patient = subst (λ f. SaysPatient (fixed_field f fixed.Patient) h.patient) front has.patient;
  recording = subst (λ f. SaysRecording (fixed_field f fixed.Recording) h.recording) front has.recording;
  day = subst (λ f. NamesStartdate (text_of (fixed_field f fixed.Startdate)) (h.recording).date h.day) front has.day;
  clock = subst (λ f. NamesClockTime (text_of (fixed_field f fixed.Starttime)) h.clock) front has.clock;
  kind = subst (λ f. take 5 (fixed_field f fixed.Reserved) ≡ kind_word h.kind) front has.kind;
  free = subst (λ f. h.free ≡ text_of (drop 5 (fixed_field f fixed.Reserved))) front has.free;
  records = subst (λ f. SpellsWhole (text_of (fixed_field f fixed.Records)) (pos h.records)) front has.records;
  duration = subst (λ f. SpellsDecimal 12 (text_of (fixed_field f fixed.Duration)) h.duration) front has.duration;
  count = subst (λ f. SpellsWhole (text_of (fixed_field f fixed.Signals)) (pos (length h.signals))) front has.count;
  signals = subst (λ bytes. (s : ℕ) (head : SignalHead) → slice_get h.signals s ≡ Some head → HasSignal (column_field bytes (length h.signals) s) head) columns has.signals;
  offsets = has.offsets;
}

-- one header's bytes say one header
pub head-same : (file other : List ℕ) (h g : Head) → HeaderConforms file h → HeaderConforms other g → header_of file h ≡ header_of other g → h ≡ g
head-same file other h g c d e =
    let n = length h.signals in
    let m = length g.signals in
    let xs = columns_part n file in
    let parts = append-same (fixed_part file) (fixed_part other) xs (columns_part m other) (front-long file h c ∙ sym (front-long other g d)) (sym (whole-header file h) ∙ e ∙ whole-header other g) in
    let sizes : 256 * n ≡ 256 * m = sym (columns-long file h c) ∙ ap length parts.1 ∙ columns-long other g d in
    let count : n ≡ m = omega (arith, sizes) in
    let columns : xs ≡ columns_part n other = parts.1 ∙ ap (λ k. columns_part k other) (sym count) in
    one_head other h g (head_from_parts other h (has-head-too file other h parts.0 columns (head_in_parts file h c.head))) d.head

pub say-the-same : (h : Head) → SayTheSame h h
say-the-same h = record { patient = refl; recording = refl; day = refl; clock = refl; free = refl; channels = λ texts. (λ x. x, λ x. x); annotations = refl }

bytes-give : (file other : List ℕ) (h g : Head) → HeaderConforms file h → HeaderConforms other g → header_of file h ≡ header_of other g
    → SayTheSame h g × (layout_in (fixed_part file) (length h.signals) (columns_part (length h.signals) file) ≡ layout_in (fixed_part other) (length g.signals) (columns_part (length g.signals) other))
bytes-give file other h g c d e =
    let n = length h.signals in
    let m = length g.signals in
    let xs = columns_part n file in
    let parts = append-same (fixed_part file) (fixed_part other) xs (columns_part m other) (front-long file h c ∙ sym (front-long other g d)) (sym (whole-header file h) ∙ e ∙ whole-header other g) in
    let sizes : 256 * n ≡ 256 * m = sym (columns-long file h c) ∙ ap length parts.1 ∙ columns-long other g d in
    let count : n ≡ m = omega (arith, sizes) in
    let columns : xs ≡ columns_part n other = parts.1 ∙ ap (λ k. columns_part k other) (sym count) in
    let is : h ≡ g = one_head other h g (head_from_parts other h (has-head-too file other h parts.0 columns (head_in_parts file h c.head))) d.head in (
      subst (λ k. SayTheSame h k) is (say-the-same h),
      ap (λ f. layout_in f n xs) parts.0 ∙ ap (λ r. layout_in (fixed_part other) n r) parts.1 ∙ ap (λ k. layout_in (fixed_part other) k (columns_part m other)) count,
    )

pub layout_is_the_rest : LayoutIsTheRest
unfolding head_layout_of
layout_is_the_rest file other h g c d = (bytes-give file other h g c d, λ both. layout-gives file other h g c d both.0 both.1)
