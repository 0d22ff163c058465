-- What passing the tests of a header means.
use Rattle.std.specs.Prelude.{◌≡◌, ℕ, ◌↔◌, List, None}
use Rattle.edf_header.specs.Faults.{header_fault}
use Rattle.edf_header.specs.Heads.{Head, HasHead}
use Rattle.edf_header.specs.HeadsReading.{head_of}
use Rattle.edf_header.specs.Sound.{IsSound}
use Rattle.edf_header.specs.Conforming.{HeaderConforms}

-- a file whose header passes every test has a header: the one that is read of it
abbrev pub PassingHasHead : Type 0
PassingHasHead = (file : List ℕ) → header_fault file ≡ None → HasHead file (head_of file)

-- a header that is in order is sound
abbrev pub ConformingIsSound : Type 0
ConformingIsSound = (file : List ℕ) (h : Head) → HeaderConforms file h → IsSound h

-- a file whose header passes every test has a sound header
abbrev pub PassingIsSound : Type 0
PassingIsSound = (file : List ℕ) → header_fault file ≡ None → IsSound (head_of file)

-- a header has no fault exactly where it is in order
abbrev pub PassingIsConforming : Type 0
PassingIsConforming = (file : List ℕ) → (header_fault file ≡ None) ↔ ((h : Head) × HeaderConforms file h)
