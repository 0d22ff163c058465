-- Steps of loops that put lines.
use Rattle.std.proofs.Common.{◌≡◌, ℕ, suc, ◌+◌, ◌-◌, ◌<◌, List, ◌++◌, arith, ap, ◌∙◌, sym, append_assoc}
use Rattle.edf_layout.specs.HeadLayouts.{signal_layout, signal_layouts}
use Rattle.edf_layout.specs.HeadTexts.{signal_line, signal_lines}
use Rattle.edf_layout.specs.OddPlaces.{odd_signal, odd_signals}

-- one signal less is left
one-less : (bytes : List ℕ) (n s : ℕ) → s < n → signal_layouts bytes n s (n - s) ≡ signal_layouts bytes n s (suc (n - (s + 1)))
one-less bytes n s low = ap (λ k. signal_layouts bytes n s k) (let e : n - s ≡ suc (n - (s + 1)) = omega arith in e)

pub lines-step : (bytes : List ℕ) (n s : ℕ) (text more : List ℕ) → s < n → more ≡ text ++ signal_line s (signal_layout bytes n s)
    → more ++ signal_lines (s + 1) (signal_layouts bytes n (s + 1) (n - (s + 1))) ≡ text ++ signal_lines s (signal_layouts bytes n s (n - s))
lines-step bytes n s text more low h =
    ap (λ t. t ++ signal_lines (s + 1) (signal_layouts bytes n (s + 1) (n - (s + 1)))) h
    ∙ append_assoc text (signal_line s (signal_layout bytes n s)) (signal_lines (s + 1) (signal_layouts bytes n (s + 1) (n - (s + 1))))
    ∙ ap (λ ls. text ++ signal_lines s ls) (sym (one-less bytes n s low))

pub odd-step : (bytes : List ℕ) (n s : ℕ) (lines more : List (List ℕ)) → s < n → more ≡ lines ++ odd_signal s (signal_layout bytes n s)
    → more ++ odd_signals (s + 1) (signal_layouts bytes n (s + 1) (n - (s + 1))) ≡ lines ++ odd_signals s (signal_layouts bytes n s (n - s))
odd-step bytes n s lines more low h =
    ap (λ t. t ++ odd_signals (s + 1) (signal_layouts bytes n (s + 1) (n - (s + 1)))) h
    ∙ append_assoc lines (odd_signal s (signal_layout bytes n s)) (odd_signals (s + 1) (signal_layouts bytes n (s + 1) (n - (s + 1))))
    ∙ ap (λ ls. lines ++ odd_signals s ls) (sym (one-less bytes n s low))
