-- Whole days between two times.
use Rattle.std.proofs.Common.{◌≡◌, ◌<◌, ◌≤◌, ◌+◌, ◌*◌, ◌/◌, ◌^◌, ℤ, pos, negsuc, ◌*ℤ◌, ◌-ℤ◌, ◌+ℤ◌, ◌≤ℤ◌, ◌<ℤ◌, unsigned_abs, true, arith}
use Rattle.std.proofs.lemmas.Int.{ints}
use Rattle.std.proofs.Math.Nat.{lt-div-mul-add, div-mul-le_self}
use Rattle.std.specs.Int.{int_div_euclid}
use Rattle.edf_draft.specs.Days.{IsShift, LiesWithin}

-- the quotient rounds down
pub rounds_down : (z : ℤ) → ((int_div_euclid z (pos 86400000000000000) *ℤ pos 86400000000000000) ≤ℤ z)
    × (z <ℤ ((int_div_euclid z (pos 86400000000000000) *ℤ pos 86400000000000000) +ℤ pos 86400000000000000))
rounds_down (pos a) =
    let low : a / 86400000000000000 * 86400000000000000 ≤ a = div-mul-le_self a 86400000000000000 in
    let some : 0 < 86400000000000000 = omega arith in
    let high : a < a / 86400000000000000 * 86400000000000000 + 86400000000000000 = lt-div-mul-add some in
    (omega (arith, ints, low), omega (arith, ints, high))
rounds_down (negsuc a) =
    let low : a / 86400000000000000 * 86400000000000000 ≤ a = div-mul-le_self a 86400000000000000 in
    let some : 0 < 86400000000000000 = omega arith in
    let high : a < a / 86400000000000000 * 86400000000000000 + 86400000000000000 = lt-div-mul-add some in
    (omega (arith, ints, high), omega (arith, ints, low))

pub days_fit : (earlier later days : ℤ) → days ≡ int_div_euclid (later -ℤ earlier) (pos 86400000000000000) → unsigned_abs earlier < 2 ^ 80 → unsigned_abs later < 2 ^ 80 → unsigned_abs days < 2 ^ 25
days_fit earlier later days is p q = let r = rounds_down (later -ℤ earlier) in omega (arith, ints, is, r.0, r.1, p, q)

pub within_then : (begin end from to days : ℤ) → days ≡ int_div_euclid (from -ℤ begin) (pos 86400000000000000)
    → (to -ℤ (days *ℤ pos 86400000000000000)) ≤ℤ end → LiesWithin begin end from to days
within_then begin end from to days is ends = let r = rounds_down (from -ℤ begin) in (omega (arith, ints, is, r.0), ends)

pub never_within : (begin end from to days other : ℤ) → days ≡ int_div_euclid (from -ℤ begin) (pos 86400000000000000)
    → end <ℤ (to -ℤ (days *ℤ pos 86400000000000000)) → LiesWithin begin end from to other → ⊥
never_within begin end from to days other is ends lies = let r = rounds_down (from -ℤ begin) in omega (arith, ints, is, r.1, ends, lies.0, lies.1)

pub within_unmoved : (begin end from to : ℤ) → begin ≤ℤ from → to ≤ℤ end → LiesWithin begin end from to (pos 0)
within_unmoved begin end from to starts ends = (omega (arith, ints, starts), omega (arith, ints, ends))

pub is_unmoved : (begin end from to : ℤ) → LiesWithin begin end from to (pos 0) → IsShift begin end from to true (pos 0)
is_unmoved begin end from to lies = (pos 0, lies, omega (arith, ints))
