-- The stages of the tests of a signal.
use Rattle.std.proofs.Common.{◌≡◌, ℕ, zero, suc, refl, length, ◌+◌, ◌-◌, ◌*◌, ◌<◌, List, [], ◌∷◌, ◌++◌, Option, Some, None, sym, ap, ◌∙◌, arith, append_assoc}
use Rattle.edf_fields.specs.declared.faults.fault.Fault.{Fault}
use Rattle.edf_fields.specs.declared.fields.layout.SignalField.TheVariants as signal
use Rattle.edf_fields.specs.fields.LayoutReading.{column_field}
use Rattle.edf_header.specs.Heads.{SignalHead}
use Rattle.edf_header.specs.HeadsReading.{line_of, signal_of, signals_from}
use Rattle.edf_header.specs.Faults.{naming_faults, extreme_faults, sampling_faults, agreement_faults, signal_faults, signals_faults}
use Rattle.edf_fields.specs.Tests.{first}
use Rattle.edf_fields.proofs.ForCallers.{first-passed, first-found}

abbrev together : List ℕ → ℕ → ℕ → List (Option Fault)
together bytes n s = agreement_faults s (column_field bytes n s signal.Label) (line_of bytes n s)

pub naming_found : (bytes : List ℕ) (n s : ℕ) (f : Fault) → first (naming_faults bytes n s) ≡ Some f → first (signal_faults bytes n s) ≡ Some f
naming_found bytes n s f h = first-found (naming_faults bytes n s) (extreme_faults bytes n s ++ (sampling_faults bytes n s ++ together bytes n s)) f h

pub extremes-left : (bytes : List ℕ) (n s : ℕ) → first (naming_faults bytes n s) ≡ None → first (signal_faults bytes n s) ≡ first (extreme_faults bytes n s ++ (sampling_faults bytes n s ++ together bytes n s))
extremes-left bytes n s h = first-passed (naming_faults bytes n s) (extreme_faults bytes n s ++ (sampling_faults bytes n s ++ together bytes n s)) h

pub extremes_found : (bytes : List ℕ) (n s : ℕ) (f : Fault) → first (naming_faults bytes n s) ≡ None → first (extreme_faults bytes n s) ≡ Some f → first (signal_faults bytes n s) ≡ Some f
extremes_found bytes n s f a h = extremes-left bytes n s a ∙ first-found (extreme_faults bytes n s) (sampling_faults bytes n s ++ together bytes n s) f h

pub sampling-left : (bytes : List ℕ) (n s : ℕ) → first (naming_faults bytes n s) ≡ None → first (extreme_faults bytes n s) ≡ None → first (signal_faults bytes n s) ≡ first (sampling_faults bytes n s ++ together bytes n s)
sampling-left bytes n s a b = extremes-left bytes n s a ∙ first-passed (extreme_faults bytes n s) (sampling_faults bytes n s ++ together bytes n s) b

pub sampling_found : (bytes : List ℕ) (n s : ℕ) (f : Fault) → first (naming_faults bytes n s) ≡ None → first (extreme_faults bytes n s) ≡ None → first (sampling_faults bytes n s) ≡ Some f → first (signal_faults bytes n s) ≡ Some f
sampling_found bytes n s f a b h = sampling-left bytes n s a b ∙ first-found (sampling_faults bytes n s) (together bytes n s) f h

pub together-left : (bytes : List ℕ) (n s : ℕ) → first (naming_faults bytes n s) ≡ None → first (extreme_faults bytes n s) ≡ None → first (sampling_faults bytes n s) ≡ None → first (signal_faults bytes n s) ≡ first (together bytes n s)
together-left bytes n s a b d = sampling-left bytes n s a b ∙ first-passed (sampling_faults bytes n s) (together bytes n s) d

-- the tests of signal s before those of the signals behind it
pub signal-passed : (bytes : List ℕ) (n s : ℕ) → s < n → first (signal_faults bytes n s) ≡ None
    → first (signals_faults bytes n s (n - s)) ≡ first (signals_faults bytes n (s + 1) (n - (s + 1)))
signal-passed bytes n s lt h =
    let next : n - s ≡ suc (n - (s + 1)) = omega arith in
    ap (λ k. first (signals_faults bytes n s k)) next
    ∙ first-passed (signal_faults bytes n s) (signals_faults bytes n (s + 1) (n - (s + 1))) h

pub signal-found : (bytes : List ℕ) (n s : ℕ) (f : Fault) → s < n → first (signal_faults bytes n s) ≡ Some f
    → first (signals_faults bytes n s (n - s)) ≡ Some f
signal-found bytes n s f lt h =
    let next : n - s ≡ suc (n - (s + 1)) = omega arith in
    ap (λ k. first (signals_faults bytes n s k)) next
    ∙ first-found (signal_faults bytes n s) (signals_faults bytes n (s + 1) (n - (s + 1))) f h

-- one more signal is found
pub signal-more : (bytes : List ℕ) (n s before after : ℕ) (found all : List SignalHead) (more : SignalHead) → s < n
    → more ≡ signal_of bytes n s before
    → after ≡ before + 2 * more.samples
    → found ++ signals_from bytes n s before (n - s) ≡ all
    → (found ++ more ∷ []) ++ signals_from bytes n (s + 1) after (n - (s + 1)) ≡ all
signal-more bytes n s before after found all more lt here behind h =
    let next : n - s ≡ suc (n - (s + 1)) = omega arith in
    let rest = signals_from bytes n (s + 1) (before + 2 * (signal_of bytes n s before).samples) (n - (s + 1)) in
    append_assoc found (more ∷ []) (signals_from bytes n (s + 1) after (n - (s + 1)))
    ∙ ap (λ a. found ++ more ∷ signals_from bytes n (s + 1) a (n - (s + 1))) (behind ∙ ap (λ m. before + 2 * m.samples) here)
    ∙ ap (λ m. found ++ m ∷ rest) here
    ∙ ap (λ k. found ++ signals_from bytes n s before k) (sym next)
    ∙ h

pub length-signals : (bytes : List ℕ) (n s before m : ℕ) → length (signals_from bytes n s before m) ≡ m
length-signals bytes n s before zero = refl
length-signals bytes n s before (suc m) = ap suc (length-signals bytes n (s + 1) (before + 2 * (signal_of bytes n s before).samples) m)
