-- The channel of a label, by its number.
use Rattle.std.proofs.Common.{◌≡◌, ℕ, zero, suc, ◌+◌, ◌<◌, ◌≤◌, Bool, true, false, not, cond, List, [], ◌∷◌, map, Option, Some, None, slice_get, inl, inr, ⊎_elim, refl, sym, ap, ◌∙◌, subst, arith}
use Rattle.edf_header.proofs.ForCallers.{channels_distinct}
use Rattle.std.specs.Str.{bytes_eq}
use Rattle.std.proofs.lemmas.Slice.Eq.{bytes_eq-Decides}
use Rattle.edf_fields.specs.Lists.{Has}
use Rattle.edf_fields.specs.Distinct.{AreDistinct}
use Rattle.edf_fields.proofs.ForCallers.{has-at, at-has, has-filtered, has-map, get-index, get-within}
use Rattle.edf_header.specs.Heads.{SignalHead, Head, is_annotations, samples_together}
use Rattle.edf_header.specs.Sound.{IsSound}
use Rattle.edf_header.specs.Standard.{IsSoundSignal}
use Rattle.edf_header.specs.signals.Channels.{channels_among}
use Rattle.edf_pace.specs.declared.walk.channel_place.ChannelPlace.{ChannelPlace}
use Rattle.edf_pace.specs.walk.Columns.{place_from, channel_at}
use Rattle.edf_heads.proofs.ForCallers.{labels-distinct}

-- the place that was found: its channel has the label, and so many samples
pub record IsPlace (channels : List SignalHead) (label : List ℕ) (k : ℕ) (place : ChannelPlace) : Type 0 where
  pub at : ℕ
  pub channel : SignalHead
  pub there : slice_get channels at ≡ Some channel
  pub labelled : channel.label ≡ label
  pub number : place.number ≡ k + at
  pub samples : place.samples ≡ channel.samples

place-case : (b : Bool) (u v : Option ChannelPlace) (P : Option ChannelPlace → Type 0) → (b ≡ true → P u) → (b ≡ false → P v) → P (cond b u v)
place-case true u v P f g = f refl
place-case false u v P f g = g refl

place-found : (channels : List SignalHead) (label : List ℕ) (k : ℕ) (place : ChannelPlace) → place_from label k channels ≡ Some place → IsPlace channels label k place
place-found [] label k place e = absurd (let z : None ≡ Some place = e in cc)
place-found (x ∷ xs) label k place e =
    place-case (bytes_eq x.label label) (Some (record { number = k; samples = x.samples })) (place_from label (k + 1) xs) (λ o. o ≡ Some place → IsPlace (x ∷ xs) label k place)
    (λ t i.
    let same : record { number = k; samples = x.samples } ≡ place = (let z : Some (record { number = k; samples = x.samples }) ≡ Some place = i in cc) in
    let number = ap (λ (p : ChannelPlace). p.number) same in
    record { at = 0; channel = x; there = refl; labelled = (bytes_eq-Decides x.label label).0 t; number = omega (arith, number); samples = sym (ap (λ (p : ChannelPlace). p.samples) same) })
    (λ f i.
    let r = place-found xs label (k + 1) place i in
    record { at = suc r.at; channel = r.channel; there = r.there; labelled = r.labelled; number = (let n = r.number in omega (arith, n)); samples = r.samples }) e

-- where a channel has the label, a place is found
place-there : (channels : List SignalHead) (label : List ℕ) (k : ℕ) → place_from label k channels ≡ None → (x : SignalHead) → Has channels x → x.label ≡ label → ⊥
place-there [] label k e x h same = h
place-there (y ∷ ys) label k e x h same =
    place-case (bytes_eq y.label label) (Some (record { number = k; samples = y.samples })) (place_from label (k + 1) ys) (λ o. o ≡ None → ⊥)
    (λ t i. let z : Some (record { number = k; samples = y.samples }) ≡ None = i in cc)
    (λ f i. ⊎_elim
    (λ q. let t : bytes_eq y.label label ≡ true = (bytes_eq-Decides y.label label).1 (ap (λ (s : SignalHead). s.label) q ∙ same) in let z : true ≡ false = sym t ∙ f in cc)
    (λ j. place-there ys label (k + 1) i x j same) h) e

-- where no label stands twice, a label has one place
pub one-number : (channels : List SignalHead) → AreDistinct (map (λ s. s.label) channels) → (i j : ℕ) (x y : SignalHead) → slice_get channels i ≡ Some x → slice_get channels j ≡ Some y → x.label ≡ y.label → i ≡ j
one-number [] d i j x y p q e = absurd (let z : None ≡ Some x = p in cc)
one-number (z ∷ zs) d zero zero x y p q e = refl
one-number (z ∷ zs) d zero (suc j) x y p q e =
    let same : z ≡ x = (let w : Some z ≡ Some x = p in cc) in
    let there = has-map (λ (s : SignalHead). s.label) zs y (has-at zs j y q) in
    absurd (d.0 (subst (Has (map (λ (s : SignalHead). s.label) zs)) (sym (ap (λ (s : SignalHead). s.label) same ∙ e)) there))
one-number (z ∷ zs) d (suc i) zero x y p q e =
    let same : z ≡ y = (let w : Some z ≡ Some y = q in cc) in
    let there = has-map (λ (s : SignalHead). s.label) zs x (has-at zs i x p) in
    absurd (d.0 (subst (Has (map (λ (s : SignalHead). s.label) zs)) (sym (ap (λ (s : SignalHead). s.label) same ∙ sym e)) there))
one-number (z ∷ zs) d (suc i) (suc j) x y p q e = ap suc (one-number zs d.1 i j x y p q e)

pub channels-distinct : (h : Head) → IsSound h → AreDistinct (map (λ s. s.label) (channels_among h.signals))
channels-distinct h s = labels-distinct h.signals (channels_distinct h.signals s.standard.distinct)

-- the place of a label
pub at-found : (h : Head) (label : List ℕ) (place : ChannelPlace) → channel_at label h ≡ Some place → IsPlace (channels_among h.signals) label 0 place
unfolding channel_at
at-found h label place e = place-found (channels_among h.signals) label 0 place e

pub at-there : (h : Head) (label : List ℕ) → channel_at label h ≡ None → (x : SignalHead) → Has (channels_among h.signals) x → x.label ≡ label → ⊥
unfolding channel_at
at-there h label e x i same = place-there (channels_among h.signals) label 0 e x i same

few-samples : (signals : List SignalHead) (x : SignalHead) → Has signals x → x.samples ≤ samples_together signals
few-samples [] x h = absurd h
few-samples (y ∷ ys) x (inl e) = let n = ap (λ (s : SignalHead). s.samples) e in omega (arith, n)
few-samples (y ∷ ys) x (inr h) = let r = few-samples ys x h in omega (arith, r)

-- how many samples the channel has in a data record
pub channel-bounds : (h : Head) (x : SignalHead) → IsSound h → Has (channels_among h.signals) x → (0 < x.samples) × (x.samples ≤ 8388608)
channel-bounds h x s i =
    let there = (has-filtered (λ (y : SignalHead). not (is_annotations y.label)) h.signals x i).0 in
    let at = at-has h.signals x there in
    let sound : IsSoundSignal x = subst IsSoundSignal (get-index h.signals at.0 x x at.1) (s.standard.signals at.0 x (get-within h.signals at.0 x at.1)) in
    let some = sound.some_samples in
    let few = few-samples h.signals x there in
    let small = s.standard.small_record in
    (omega (arith, some), omega (arith, few, small))
