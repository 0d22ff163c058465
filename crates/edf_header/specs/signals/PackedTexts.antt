-- The texts of a signal (EDF, "Header record"), and how they are kept.
use Rattle.std.specs.Prelude.{ℕ, ◌-◌, ◌≤◌, List, length, take, drop}

-- the texts of a signal's fields but for its label
pub record SignalTexts : Type 0 where
  pub transducer : List ℕ
  pub dimension : List ℕ
  pub prefilter : List ℕ
  pub reserved : List ℕ

-- the bytes from one place up to another
abbrev pub between : ℕ → ℕ → List ℕ → List ℕ
between from to bytes = take (to - from) (drop from bytes)

-- texts that stand one behind the other, by the places at which they end; the last one ends where the bytes do
abbrev pub texts_between : List ℕ → ℕ → ℕ → ℕ → SignalTexts
texts_between bytes transducer dimension prefilter = record {
  transducer = take transducer bytes;
  dimension = between transducer dimension bytes;
  prefilter = between dimension prefilter bytes;
  reserved = drop prefilter bytes;
}

-- each text ends where the next one begins
pub record AreBehind (bytes : List ℕ) (transducer dimension prefilter : ℕ) : Type 0 where
  pub first : transducer ≤ dimension
  pub second : dimension ≤ prefilter
  pub third : prefilter ≤ length bytes
