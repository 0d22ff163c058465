-- Labels that no earlier channel has.
use Rattle.std.proofs.Common.{◌≡◌, ℕ, zero, suc, ◌+◌, ◌-◌, ◌<◌, ◌≤◌, ◌&&◌, List, [], ◌∷◌, length, map, take, get_or, Some, None, Bool, true, false, not, cond, inl, inr, refl, sym, ap, ◌∙◌, subst, arith}
use Rattle.std.specs.List.{position_from}
use Rattle.std.specs.Option.{is_some}
use Rattle.std.specs.Str.{bytes_eq}
use Rattle.std.proofs.lemmas.List.{length-take}
use Rattle.std.proofs.lemmas.Slice.Eq.{bytes_eq-Decides}
use Rattle.edf_fields.specs.declared.faults.fault.Place.TheVariants.{AtSignal}
use Rattle.edf_fields.specs.declared.faults.fault.Cause.TheVariants.{DuplicateLabel}
use Rattle.edf_fields.specs.declared.fields.layout.SignalField.TheVariants as signal
use Rattle.edf_header.specs.Heads.{SignalHead, is_annotations}
use Rattle.edf_header.specs.signals.Channels.{channels_among, channel_labels}
use Rattle.edf_header.specs.signals.ChannelsReading.{is_channel_of, label_at, is_repeated}
use Rattle.edf_header.specs.Faults.{fault, label_fault, labels_faults}
use Rattle.edf_fields.specs.Tests.{first}
use Rattle.edf_fields.specs.Lists.{Has, is_one_of}
use Rattle.edf_fields.specs.Distinct.{are_distinct}
use Rattle.edf_fields.proofs.ForCallers.{first-passed, first-found, and-true, not-true, has-one_of}

pub label_here : (signals : List SignalHead) (s : ℕ) (d : SignalHead) → s < length signals → label_at signals s ≡ (get_or signals s d).label
label_here [] s d lt = absurd (omega arith)
label_here (x ∷ signals) zero d lt = refl
label_here (x ∷ signals) (suc s) d lt = label_here signals s d (omega arith)

-- the test of one label before those of the labels behind it
pub label_passed : (signals : List SignalHead) (s n : ℕ) → s < n → is_repeated signals s ≡ false → first (labels_faults signals s (n - s)) ≡ first (labels_faults signals (s + 1) (n - (s + 1)))
unfolding label_fault
label_passed signals s n lt passed =
    let next : n - s ≡ suc (n - (s + 1)) = omega arith in
    ap (λ m. first (labels_faults signals s m)) next
    ∙ first-passed (label_fault signals s ∷ []) (labels_faults signals (s + 1) (n - (s + 1))) (ap (λ b. first (cond (not b) None (fault (AtSignal s signal.Label) DuplicateLabel) ∷ [])) passed)

pub label_found : (signals : List SignalHead) (s n : ℕ) → s < n → is_repeated signals s ≡ true → first (labels_faults signals s (n - s)) ≡ fault (AtSignal s signal.Label) DuplicateLabel
unfolding label_fault
label_found signals s n lt found =
    let next : n - s ≡ suc (n - (s + 1)) = omega arith in
    ap (λ m. first (labels_faults signals s m)) next
    ∙ first-found (label_fault signals s ∷ []) (labels_faults signals (s + 1) (n - (s + 1))) _ (ap (λ b. first (cond (not b) None (fault (AtSignal s signal.Label) DuplicateLabel) ∷ [])) found)

-- ---- the labels of the channels as one list

labels-step : (x : SignalHead) (xs : List SignalHead) → channel_labels (x ∷ xs) ≡ cond (is_annotations x.label) (channel_labels xs) (x.label ∷ channel_labels xs)
labels-step x xs = step-case (is_annotations x.label)
  where
    step-case : (b : Bool) → map (λ s. s.label) (cond (not b) (x ∷ channels_among xs) (channels_among xs)) ≡ cond b (channel_labels xs) (x.label ∷ channel_labels xs)
    step-case true = refl
    step-case false = refl

-- a channel's label stands in the list
label-listed : (xs : List SignalHead) (s : ℕ) → s < length xs → is_annotations (label_at xs s) ≡ false → Has (channel_labels xs) (label_at xs s)
label-listed [] s lt channel = absurd (omega (arith, lt))
label-listed (x ∷ xs) zero lt channel = subst (λ ls. Has ls x.label) (sym (labels-step x xs ∙ ap (λ b. cond b (channel_labels xs) (x.label ∷ channel_labels xs)) channel)) (inl refl)
label-listed (x ∷ xs) (suc s) lt channel =
    subst (λ ls. Has ls (label_at xs s)) (sym (labels-step x xs)) (listed-case (is_annotations x.label) (label-listed xs s (omega (arith, lt)) channel))
  where
    listed-case : (b : Bool) → Has (channel_labels xs) (label_at xs s) → Has (cond b (channel_labels xs) (x.label ∷ channel_labels xs)) (label_at xs s)
    listed-case true h = h
    listed-case false h = inr h

distinct-tail : (x : SignalHead) (xs : List SignalHead) → are_distinct (channel_labels (x ∷ xs)) ≡ true → are_distinct (channel_labels xs) ≡ true
distinct-tail x xs h = tail-case (is_annotations x.label) (sym (ap are_distinct (labels-step x xs)) ∙ h)
  where
    tail-case : (b : Bool) → are_distinct (cond b (channel_labels xs) (x.label ∷ channel_labels xs)) ≡ true → are_distinct (channel_labels xs) ≡ true
    tail-case true h = h
    tail-case false h = (and-true (not (is_one_of (channel_labels xs) x.label)) (are_distinct (channel_labels xs)) h).1

-- where no label stands twice in the list, no signal is a channel of the label of a later one
other-label : (x : SignalHead) (xs : List SignalHead) (s : ℕ) → are_distinct (channel_labels (x ∷ xs)) ≡ true → s < length xs → is_channel_of (label_at xs s) x ≡ false
other-label x xs s alone lt = channel-case (is_annotations x.label) refl (bytes_eq x.label (label_at xs s)) refl
  where
    channel-case : (a : Bool) → is_annotations x.label ≡ a → (b : Bool) → bytes_eq x.label (label_at xs s) ≡ b → (b && not (is_annotations x.label)) ≡ false
    channel-case a ea false eb = refl
    channel-case true ea true eb = ap not ea
    channel-case false ea true eb =
        let same : x.label ≡ label_at xs s = (bytes_eq-Decides x.label (label_at xs s)).0 eb in
        let channel : is_annotations (label_at xs s) ≡ false = ap is_annotations (sym same) ∙ ea in
        let list : channel_labels (x ∷ xs) ≡ x.label ∷ channel_labels xs = labels-step x xs ∙ ap (λ b. cond b (channel_labels xs) (x.label ∷ channel_labels xs)) ea in
        let both = and-true (not (is_one_of (channel_labels xs) x.label)) (are_distinct (channel_labels xs)) (sym (ap are_distinct list) ∙ alone) in
        let there : is_one_of (channel_labels xs) x.label ≡ true = ap (is_one_of (channel_labels xs)) same ∙ has-one_of (channel_labels xs) (label_at xs s) (label-listed xs s lt channel) in
        absurd (let z : true ≡ false = sym there ∙ not-true (is_one_of (channel_labels xs) x.label) both.0 in cc)

none-repeated : (signals : List SignalHead) (s k : ℕ) → are_distinct (channel_labels signals) ≡ true → s < length signals → is_some (position_from (is_channel_of (label_at signals s)) k (take s signals)) ≡ false
none-repeated [] s k alone lt = absurd (omega (arith, lt))
none-repeated (x ∷ xs) zero k alone lt = refl
none-repeated (x ∷ xs) (suc s) k alone lt =
    let behind = position_from (is_channel_of (label_at xs s)) (k + 1) (take s xs) in
    ap (λ b. is_some (cond b (Some k) behind)) (other-label x xs s alone (omega (arith, lt)))
    ∙ none-repeated xs s (k + 1) (distinct-tail x xs alone) (omega (arith, lt))

labels-from : (signals : List SignalHead) (s m : ℕ) → are_distinct (channel_labels signals) ≡ true → s + m ≡ length signals → first (labels_faults signals s m) ≡ None
unfolding label_fault
labels-from signals s zero alone e = refl
labels-from signals s (suc m) alone e =
    first-passed (label_fault signals s ∷ []) (labels_faults signals (s + 1) m)
    (ap (λ b. first (cond (not b) None (fault (AtSignal s signal.Label) DuplicateLabel) ∷ [])) (none-repeated signals s 0 alone (omega (arith, e))))
    ∙ labels-from signals (s + 1) m alone (omega (arith, e))

pub labels_pass : (signals : List SignalHead) → are_distinct (channel_labels signals) ≡ true → first (labels_faults signals 0 (length signals)) ≡ None
labels_pass signals alone = labels-from signals 0 (length signals) alone (omega arith)

-- ---- a front of the signals

take-front : (s m : ℕ) (xs : List SignalHead) → s ≤ m → take s (take m xs) ≡ take s xs
take-front zero m xs le = refl
take-front (suc s) zero xs le = absurd (omega (arith, le))
take-front (suc s) (suc m) [] le = refl
take-front (suc s) (suc m) (x ∷ xs) le = ap (λ ys. x ∷ ys) (take-front s m xs (omega (arith, le)))

label-front : (s m : ℕ) (xs : List SignalHead) → s < m → label_at (take m xs) s ≡ label_at xs s
label-front s zero xs lt = absurd (omega (arith, lt))
label-front s (suc m) [] lt = refl
label-front zero (suc m) (x ∷ xs) lt = refl
label-front (suc s) (suc m) (x ∷ xs) lt = label-front s m xs (omega (arith, lt))

-- no signal of a front whose labels are distinct repeats one
none-in-front : (signals : List SignalHead) (m s : ℕ) → m ≤ length signals → s < m → are_distinct (channel_labels (take m signals)) ≡ true → is_repeated signals s ≡ false
none-in-front signals m s le lt alone =
    let whole : length (take m signals) ≡ m = omega (arith, length-take m signals, le) in
    ap (λ l. is_some (position_from (is_channel_of l) 0 (take s signals))) (sym (label-front s m signals lt))
    ∙ ap (λ xs. is_some (position_from (is_channel_of (label_at (take m signals) s)) 0 xs)) (sym (take-front s m signals (omega (arith, lt))))
    ∙ none-repeated (take m signals) s 0 alone (omega (arith, whole, lt))

front-from : (signals : List SignalHead) (m s k : ℕ) → m ≤ length signals → s + k ≡ m → are_distinct (channel_labels (take m signals)) ≡ true
    → first (labels_faults signals s (length signals - s)) ≡ first (labels_faults signals m (length signals - m))
front-from signals m s zero le e alone = ap (λ j. first (labels_faults signals j (length signals - j))) (let z : s ≡ m = omega (arith, e) in z)
front-from signals m s (suc k) le e alone =
    label_passed signals s (length signals) (omega (arith, le, e)) (none-in-front signals m s le (omega (arith, e)) alone)
    ∙ front-from signals m (s + 1) k le (omega (arith, e)) alone

pub front_passes : (signals : List SignalHead) (m : ℕ) → m ≤ length signals → are_distinct (channel_labels (take m signals)) ≡ true
    → first (labels_faults signals 0 (length signals)) ≡ first (labels_faults signals m (length signals - m))
front_passes signals m le alone = ap (λ n. first (labels_faults signals 0 n)) (let z : length signals ≡ length signals - 0 = omega arith in z) ∙ front-from signals m 0 m le (omega arith) alone
