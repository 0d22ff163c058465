-- Printable bytes, as a test.
use Rattle.std.specs.Prelude.{ℕ, Bool, nat_le, ◌&&◌}

-- the byte is printable ASCII
abbrev pub is_printable : ℕ → Bool
is_printable b = nat_le 32 b && nat_le b 126
