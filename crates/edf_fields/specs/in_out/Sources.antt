-- What a source of bytes promises of a read.
use Rattle.std.specs.Prelude.{◌≡◌, ℕ, ◌+◌, ◌-◌, ◌^◌, ◌≤◌, min, Bool, List}

-- a count of failures that stops at `u64::MAX` went up
abbrev pub Rises : ℕ → ℕ → Type 0
Rises old new = min (old + 1) (2 ^ 64 - 1) ≤ new

-- what is told of the reads of a source: how many failed so far, up to `u64::MAX`; and, of one that remembers its start, what it had then, and
-- whether that is to be relied on
pub record Reads : Type 0 where
  pub failed : ℕ
  pub start : List ℕ
  pub known : Bool

-- a read failed
abbrev pub Fails : Reads → Reads → Type 0
Fails old new = Rises old.failed new.failed
