-- The product of a number of 16 bits and a small one of 128 bits, as the code makes it: both go to their bits, and the product too.
use Rattle.std.proofs.Common.{◌≡◌, ◌^◌, ◌<◌, ◌≤◌, ◌*◌, ℤ, ◌*ℤ◌, SFits, FitsSigned, w16, to_z, of_z, unsigned_abs, arith, lit<}
use Rattle.std.specs.Int.{w128}
use Rattle.std.proofs.Math.Nat.{mul-le-mul}
use Rattle.std.proofs.lemmas.Int.{ints, to_z-of_z, fits_signed_mul, unsigned_abs-mul}

plain_fits : (d s : ℤ) → SFits w16 d → unsigned_abs s < 2 ^ 52 → SFits w128 (d *ℤ s)
plain_fits d s f h = fits_signed_mul w128 d s (2 ^ 15) (2 ^ 52) (omega (arith, ints)) (omega arith) (lit< tt)

plain_small : (d s : ℤ) → SFits w16 d → unsigned_abs s < 2 ^ 52 → unsigned_abs (d *ℤ s) < 2 ^ 69
plain_small d s f h =
    let k : unsigned_abs d ≤ 2 ^ 15 = omega (arith, ints) in
    let m : unsigned_abs s ≤ 2 ^ 52 = omega arith in
    let p : unsigned_abs d * unsigned_abs s ≤ 2 ^ 15 * 2 ^ 52 = mul-le-mul k m in
    rw (unsigned_abs-mul d s) (omega arith)

-- r is d, cast
pub product_fits : (r d s : ℤ) → SFits w16 d → SFits w128 s → unsigned_abs s < 2 ^ 52 → r ≡ to_z w16 (of_z w16 d) → FitsSigned w128 (to_z w128 (of_z w128 r) *ℤ to_z w128 (of_z w128 s))
product_fits r d s f g h e =
    let k : SFits w128 d = omega (arith, ints) in
    rw (e, to_z-of_z w16 d f, to_z-of_z w128 d k, to_z-of_z w128 s g) (plain_fits d s f h)

pub product_is : (r d s : ℤ) → SFits w16 d → SFits w128 s → unsigned_abs s < 2 ^ 52 → r ≡ to_z w16 (of_z w16 d) → to_z w128 (of_z w128 (to_z w128 (of_z w128 r) *ℤ to_z w128 (of_z w128 s))) ≡ d *ℤ s
product_is r d s f g h e =
    let k : SFits w128 d = omega (arith, ints) in
    rw (e, to_z-of_z w16 d f, to_z-of_z w128 d k, to_z-of_z w128 s g) (to_z-of_z w128 (d *ℤ s) (plain_fits d s f h))

pub product_small : (r d s : ℤ) → SFits w16 d → SFits w128 s → unsigned_abs s < 2 ^ 52 → r ≡ to_z w16 (of_z w16 d) → unsigned_abs (to_z w128 (of_z w128 (to_z w128 (of_z w128 r) *ℤ to_z w128 (of_z w128 s)))) < 2 ^ 69
product_small r d s f g h e = rw (product_is r d s f g h e) (plain_small d s f h)
