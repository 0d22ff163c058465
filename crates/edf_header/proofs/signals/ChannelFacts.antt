-- The channels and the annotation signals of a header whose signals passed their tests together.
use Rattle.std.proofs.Common.{◌≡◌, ℕ, zero, suc, ◌+◌, ◌<◌, ◌≤◌, ◌&&◌, ◌||◌, not, Bool, true, false, cond, List, [], ◌∷◌, ◌++◌, length, take, slice_get, Some, None, unwrap_or, option_map, inl, inr, refl, sym, ap, ◌∙◌, subst, arith, nat_le, ◌≢◌}
use Rattle.std.specs.List.{list_any, list_all, position_from}
use Rattle.std.specs.Option.{is_some}
use Rattle.std.proofs.lemmas.Bool.{cases_lt, false_from_ne_true, cases_Bool}
use Rattle.std.proofs.lemmas.Slice.Eq.{bytes_eq-Decides}
use Rattle.edf_fields.specs.declared.faults.fault.Place.TheVariants.{AtField, AtSignal}
use Rattle.edf_fields.specs.declared.faults.fault.Cause.TheVariants.{NoAnnotationSignal, NoOrdinarySignal, DuplicateLabel, RecordTooLarge}
use Rattle.edf_fields.specs.declared.fields.layout.FixedField.TheVariants as fixed
use Rattle.edf_fields.specs.declared.fields.layout.SignalField.TheVariants as signal
use Rattle.edf_fields.proofs.ForCallers.{le_decided, first-none, first-cons, not-true}
use Rattle.edf_header.specs.Heads.{SignalHead, is_annotations, samples_together}
use Rattle.edf_header.specs.signals.Channels.{channels_among}
use Rattle.edf_header.specs.signals.ChannelsReading.{is_channel_of, channel_place, label_at, is_repeated, IsChannel, HasDistinctChannels}
use Rattle.edf_header.specs.Faults.{no_annotation_signal, no_ordinary_signal, label_fault, labels_faults, record_too_large, joint_faults}
use Rattle.edf_fields.specs.Tests.{first}
use Rattle.edf_header.proofs.PassedFacts.{fault_unless-passed}

-- a member with this answer of the test, and its place
abbrev FoundAt : (SignalHead → Bool) → Bool → List SignalHead → Type 0
FoundAt p answer signals = (s : ℕ) × (head : SignalHead) × (slice_get signals s ≡ Some head) × (p head ≡ answer)

behind-first : (p : SignalHead → Bool) (answer : Bool) (x : SignalHead) (signals : List SignalHead) → FoundAt p answer signals → FoundAt p answer (x ∷ signals)
behind-first p answer x signals r = (suc r.0, r.1, r.2, r.3)

any-cases : (p : SignalHead → Bool) (x : SignalHead) (signals : List SignalHead) (b : Bool) → p x ≡ b → (list_any p signals ≡ true → FoundAt p true signals)
    → (b || list_any p signals) ≡ true → FoundAt p true (x ∷ signals)
any-cases p x signals true e rest q = (0, x, refl, e)
any-cases p x signals false e rest q = behind-first p true x signals (rest q)

pub any-at : (p : SignalHead → Bool) (signals : List SignalHead) → list_any p signals ≡ true → FoundAt p true signals
any-at p [] h = absurd (let e : false ≡ true = h in cc)
any-at p (x ∷ signals) h = any-cases p x signals (p x) refl (λ q. any-at p signals q) h

all-cases : (p : SignalHead → Bool) (x : SignalHead) (signals : List SignalHead) (b : Bool) → p x ≡ b → (list_all p signals ≡ false → FoundAt p false signals)
    → (b && list_all p signals) ≡ false → FoundAt p false (x ∷ signals)
all-cases p x signals false e rest q = (0, x, refl, e)
all-cases p x signals true e rest q = behind-first p false x signals (rest q)

pub all-fails : (p : SignalHead → Bool) (signals : List SignalHead) → list_all p signals ≡ false → FoundAt p false signals
all-fails p [] h = absurd (let e : true ≡ false = h in cc)
all-fails p (x ∷ signals) h = all-cases p x signals (p x) refl (λ q. all-fails p signals q) h

not-first : (p : SignalHead → Bool) (x : SignalHead) (signals : List SignalHead) (k : ℕ) (b : Bool) → is_some (cond b (Some k) (position_from p (k + 1) signals)) ≡ false
    → (b ≡ false) × (is_some (position_from p (k + 1) signals) ≡ false)
not-first p x signals k true q = absurd (let z : true ≡ false = q in cc)
not-first p x signals k false q = (refl, q)

-- in a list in which no member is found none passes the test
pub none-found : (p : SignalHead → Bool) (signals : List SignalHead) (k s : ℕ) (head : SignalHead) → is_some (position_from p k signals) ≡ false → slice_get signals s ≡ Some head → p head ≡ false
none-found p [] k s head e h = absurd (let z : None ≡ Some head = h in cc)
none-found p (x ∷ signals) k zero head e h =
    let z : x ≡ head = (let j : Some x ≡ Some head = h in cc) in
    subst (λ (y : SignalHead). p y ≡ false) z (not-first p x signals k (p x) e).0
none-found p (x ∷ signals) k (suc s) head e h = none-found p signals (k + 1) s head (not-first p x signals k (p x) e).1 h

tested : (label : List ℕ) (head : SignalHead) → head.label ≡ label → is_annotations label ≡ false → is_channel_of label head ≡ true
tested label head e f =
    ap (λ b. b && not (is_annotations head.label)) ((bytes_eq-Decides head.label label).1 e) ∙ ap (λ l. not (is_annotations l)) e ∙ ap not f

pub get-within : (xs : List SignalHead) (i : ℕ) (x : SignalHead) → slice_get xs i ≡ Some x → i < length xs
get-within [] i x e = absurd (let h : None ≡ Some x = e in cc)
get-within (y ∷ xs) zero x e = omega arith
get-within (y ∷ xs) (suc i) x e = omega (arith, get-within xs i x e)

get-taken : (xs : List SignalHead) (t s : ℕ) → s < t → slice_get (take t xs) s ≡ slice_get xs s
get-taken [] zero s lt = refl
get-taken [] (suc t) s lt = refl
get-taken (x ∷ xs) zero s lt = absurd (omega arith)
get-taken (x ∷ xs) (suc t) zero lt = refl
get-taken (x ∷ xs) (suc t) (suc s) lt = get-taken xs t s (omega arith)

-- where each test of a label passes, no label is repeated
labels-alone : (signals : List SignalHead) (s m t : ℕ) → first (labels_faults signals s m) ≡ None → s ≤ t → t < s + m → is_repeated signals t ≡ false
unfolding label_fault
labels-alone signals s zero t h low high = absurd (omega arith)
labels-alone signals s (suc m) t h low high =
    let r = first-cons (label_fault signals s) (labels_faults signals (s + 1) m) h in
    elim (cases_lt s t) [
      | inl lt ↦ labels-alone signals (s + 1) m t r.1 (omega arith) (omega arith)
      | inr le ↦
          let e : s ≡ t = omega arith in
          rw (sym e) (not-true (is_repeated signals s) (fault_unless-passed (not (is_repeated signals s)) (AtSignal s signal.Label) DuplicateLabel r.0))
    ]

earlier : (signals : List SignalHead) (s t : ℕ) (label : List ℕ) → first (labels_faults signals 0 (length signals)) ≡ None → IsChannel signals s label → IsChannel signals t label → s < t → ⊥
earlier signals s t label passed cs ct lt =
    let within : t < length signals = get-within signals t ct.0 ct.1 in
    let alone : is_repeated signals t ≡ false = labels-alone signals 0 (length signals) t passed (omega arith) (omega arith) in
    let named : label_at signals t ≡ label = ap (λ o. unwrap_or (option_map (λ (y : SignalHead). y.label) o) []) ct.1 ∙ ct.2.0 in
    let none : is_some (channel_place label (take t signals)) ≡ false = ap (λ l. is_some (channel_place l (take t signals))) (sym named) ∙ alone in
    let failed : is_channel_of label cs.0 ≡ false = none-found (is_channel_of label) (take t signals) 0 s cs.0 none (get-taken signals t s lt ∙ cs.1) in
    let passes : is_channel_of label cs.0 ≡ true = tested label cs.0 cs.2.0 cs.2.1 in
    let z : true ≡ false = sym passes ∙ failed in
    cc

pub labels-distinct : (signals : List SignalHead) → first (labels_faults signals 0 (length signals)) ≡ None → HasDistinctChannels signals
labels-distinct signals passed s t label cs ct =
    elim (cases_lt s t) [
      | inl lt ↦ absurd (earlier signals s t label passed cs ct lt)
      | inr le ↦ elim (cases_lt t s) [
        | inl lt ↦ absurd (earlier signals t s label passed ct cs lt)
        | inr ge ↦ omega arith
      ]
    ]

-- no two channels have one label, as `MeetsStandard` says it and by `IsChannel`
abbrev pub AreDistinct : List SignalHead → Type 0
AreDistinct signals = (s t : ℕ) (x y : SignalHead) → slice_get signals s ≡ Some x → slice_get signals t ≡ Some y → is_annotations x.label ≡ false → x.label ≡ y.label → s ≡ t

pub channels_distinct : (signals : List SignalHead) → AreDistinct signals → HasDistinctChannels signals
channels_distinct signals d s t label cs ct = d s t cs.0 ct.0 cs.1 ct.1 (ap is_annotations cs.2.0 ∙ cs.2.1) (cs.2.0 ∙ sym ct.2.0)

distinct-signals : (signals : List SignalHead) → HasDistinctChannels signals → AreDistinct signals
distinct-signals signals d s t x y e f plain same = d s t x.label (x, e, (refl, plain)) (y, f, (sym same, plain))

-- what the tests of the signals together say
pub record Together (signals : List SignalHead) : Type 0 where
  pub annotations : list_any (λ signal. is_annotations signal.label) signals ≡ true
  pub channel : channels_among signals ≢ []
  pub distinct : AreDistinct signals
  pub small : samples_together signals ≤ 8388608

small-record : (signals : List SignalHead) → record_too_large signals ≡ None → samples_together signals ≤ 8388608
unfolding record_too_large
small-record signals h = (le_decided (samples_together signals) 8388608).0 (fault_unless-passed (nat_le (samples_together signals) 8388608) (AtField fixed.Signals) RecordTooLarge h)

pub annotation-there : (signals : List SignalHead) → no_annotation_signal signals ≡ None → list_any (λ signal. is_annotations signal.label) signals ≡ true
unfolding no_annotation_signal
annotation-there signals h = fault_unless-passed (list_any (λ signal. is_annotations signal.label) signals) (AtField fixed.Signals) NoAnnotationSignal h

-- where all signals hold annotations there is no channel
pub none-among : (signals : List SignalHead) → list_all (λ signal. is_annotations signal.label) signals ≡ true → channels_among signals ≡ []
none-among [] h = refl
none-among (x ∷ xs) h = elim (cases_Bool (is_annotations x.label)) [
  | inl holds ↦ rw holds (none-among xs (rw holds at h))
  | inr fails ↦ absurd (let e : false ≡ true = rw fails at h in cc)
]

some-among : (signals : List SignalHead) → list_all (λ signal. is_annotations signal.label) signals ≡ false → channels_among signals ≢ []
some-among [] h = λ e. absurd (let z : true ≡ false = h in cc)
some-among (x ∷ xs) h = elim (cases_Bool (is_annotations x.label)) [
  | inl holds ↦ rw holds (some-among xs (rw holds at h))
  | inr fails ↦ rw fails (λ e. let z : x ∷ channels_among xs ≡ [] = e in cc)
]

pub channel-there : (signals : List SignalHead) → no_ordinary_signal signals ≡ None → channels_among signals ≢ []
unfolding no_ordinary_signal
channel-there signals h =
    let p : SignalHead → Bool = λ head. is_annotations head.label in
    some-among signals (not-true (list_all p signals) (fault_unless-passed (not (list_all p signals)) (AtField fixed.Signals) NoOrdinarySignal h))

-- where there is a channel one of the signals is it
pub some_channel : (signals : List SignalHead) → channels_among signals ≢ [] → (s : ℕ) × (label : List ℕ) × IsChannel signals s label
some_channel signals h =
    let p : SignalHead → Bool = λ head. is_annotations head.label in
    let r = all-fails p signals (false_from_ne_true (list_all p signals) (λ all. h (none-among signals all))) in
    (r.0, (r.1).label, (r.1, r.2, (refl, r.3)))

pub joint-passed : (signals : List SignalHead) → first (joint_faults signals) ≡ None → Together signals
joint-passed signals h =
    let labels = labels_faults signals 0 (length signals) in
    let a = first-cons (no_annotation_signal signals) (no_ordinary_signal signals ∷ (labels ++ (record_too_large signals ∷ []))) h in
    let b = first-cons (no_ordinary_signal signals) (labels ++ (record_too_large signals ∷ [])) a.1 in
    let d = first-none labels (record_too_large signals ∷ []) b.1 in
    record {
      annotations = annotation-there signals a.0;
      channel = channel-there signals b.0;
      distinct = distinct-signals signals (labels-distinct signals d.0);
      small = small-record signals (first-cons (record_too_large signals) [] d.1).0;
    }
