-- The channels among the signals of a header, one after the other.
use Rattle.std.proofs.Common.{◌≡◌, ℕ, zero, suc, ◌≤◌, true, false, List, [], ◌∷◌, ◌++◌, length, length-append, drop, map, filter, Some, None, slice_get, ⊎_elim, refl, sym, ap, ◌∙◌, subst, arith, append_assoc}
use Rattle.std.proofs.lemmas.List.{append-nil, drop_all, length-map, map-append}
use Rattle.edf_fields.proofs.ForCallers.{has-append}
use Rattle.edf_header.specs.signals.ChannelsReading.{is_ordinary}
use Rattle.edf_header.specs.Heads.{SignalHead}
use Rattle.edf_heads.specs.ChannelIndexes.{IsAmong, AreAmong}
use Rattle.edf_heads.specs.declared.channel_index.Channel.{Channel}

get-behind : (xs : List SignalHead) (x : SignalHead) (ys : List SignalHead) → slice_get (xs ++ (x ∷ ys)) (length xs) ≡ Some x
get-behind [] x ys = refl
get-behind (z ∷ xs) x ys = get-behind xs x ys

some-same : (y x : SignalHead) → Some y ≡ Some x → y ≡ x
some-same y x e = cc

none-some : (x : SignalHead) → None ≡ Some x → ⊥
none-some x e = cc

among-here : (signals : List SignalHead) (i : ℕ) (x : SignalHead) → slice_get signals i ≡ Some x → is_ordinary x ≡ true → filter is_ordinary (drop i signals) ≡ x ∷ filter is_ordinary (drop (suc i) signals)
among-here [] i x e f = absurd (none-some x e)
among-here (y ∷ ys) zero x e f =
    let same : y ≡ x = some-same y x e in
    let g : is_ordinary y ≡ true = ap is_ordinary same ∙ f in
    rw g (ap (λ z. z ∷ filter is_ordinary ys) same)
among-here (y ∷ ys) (suc i) x e f = among-here ys i x e f

among-skipped : (signals : List SignalHead) (i : ℕ) (x : SignalHead) → slice_get signals i ≡ Some x → is_ordinary x ≡ false → filter is_ordinary (drop i signals) ≡ filter is_ordinary (drop (suc i) signals)
among-skipped [] i x e f = absurd (none-some x e)
among-skipped (y ∷ ys) zero x e f =
    let same : y ≡ x = some-same y x e in
    let g : is_ordinary y ≡ false = ap is_ordinary same ∙ f in
    rw g refl
among-skipped (y ∷ ys) (suc i) x e f = among-skipped ys i x e f

-- the channels among the first so many signals
pub record AreTo (signals : List SignalHead) (i : ℕ) (channels : List Channel) : Type 0 where
  pub few : length channels ≤ i
  pub all : filter is_ordinary signals ≡ map (λ c. c.signal.now) channels ++ filter is_ordinary (drop i signals)
  pub among : AreAmong signals channels

pub to-none : (signals : List SignalHead) → AreTo signals 0 []
to-none signals = record { few = omega arith; all = refl; among = λ c i. absurd i }

pub to-skipped : (signals : List SignalHead) (i : ℕ) (channels : List Channel) (x : SignalHead) → slice_get signals i ≡ Some x → is_ordinary x ≡ false → AreTo signals i channels → AreTo signals (suc i) channels
to-skipped signals i channels x e f before = record {
  few = omega (arith, before.few);
  all = before.all ∙ ap (λ r. map (λ (c : Channel). c.signal.now) channels ++ r) (among-skipped signals i x e f);
  among = before.among;
}

pub to-next : (signals : List SignalHead) (i : ℕ) (channels : List Channel) (c : Channel) → slice_get signals i ≡ Some c.signal.now → is_ordinary c.signal.now ≡ true → c.at ≡ i → c.number ≡ length channels
    → AreTo signals i channels → AreTo signals (suc i) (channels ++ (c ∷ []))
to-next signals i channels c e f at number before =
    let x = c.signal.now in
    let held = map (λ (d : Channel). d.signal.now) channels in
    let rest = filter is_ordinary (drop (suc i) signals) in
    let parts : filter is_ordinary signals ≡ held ++ (x ∷ rest) = before.all ∙ ap (λ r. held ++ r) (among-here signals i x e f) in
    let long : length held ≡ length channels = length-map channels (λ (d : Channel). d.signal.now) in
    record {
      few = omega (arith, before.few, length-append channels (c ∷ []));
      all = parts ∙ sym (append_assoc held (x ∷ []) rest) ∙ ap (λ r. r ++ rest) (sym (map-append (λ (d : Channel). d.signal.now) channels (c ∷ [])));
      among = λ d i.
          ⊎_elim (λ old. before.among d old)
          (λ new.
          ⊎_elim
          (λ is. (let P : Channel → Type 0 = IsAmong signals in subst P is (record {
            stands = ap (slice_get signals) at ∙ e;
            counted = ap (slice_get (filter is_ordinary signals)) (number ∙ sym long) ∙ ap (λ (xs : List SignalHead). slice_get xs (length held)) parts ∙ get-behind held x rest;
          })))
          (λ none. absurd none) new)
          (has-append channels (c ∷ []) d i);
    }

pub to-all : (signals : List SignalHead) (i : ℕ) (channels : List Channel) → length signals ≤ i → AreTo signals i channels → map (λ c. c.signal.now) channels ≡ filter is_ordinary signals
to-all signals i channels le done =
    sym (done.all ∙ ap (λ (r : List SignalHead). map (λ (c : Channel). c.signal.now) channels ++ filter is_ordinary r) (drop_all i signals le) ∙ append-nil (map (λ (c : Channel). c.signal.now) channels))
