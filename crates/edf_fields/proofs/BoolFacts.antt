-- Tests that are true, and what they say.
use Rattle.std.proofs.Common.{◌≡◌, ℤ, ◌≤ℤ◌, ◌<ℤ◌, int_le, int_lt, not, ◌&&◌, Bool, true, false, refl, arith}
use Rattle.std.proofs.lemmas.Int.{ints}

pub and-true : (a b : Bool) → (a && b) ≡ true → (a ≡ true) × (b ≡ true)
and-true true b h = (refl, h)
and-true false b h = absurd (let f : false ≡ true = h in cc)

pub both-true : (a b : Bool) → a ≡ true → b ≡ true → (a && b) ≡ true
both-true a b p q = cc

pub not-true : (a : Bool) → not a ≡ true → a ≡ false
not-true true h = absurd (let f : false ≡ true = h in cc)
not-true false h = refl

pub not-is : (b : Bool) → (b ≡ true → ⊥) → not b ≡ true
not-is true h = absurd (h refl)
not-is false h = refl

pub le-tested : (x y : ℤ) → int_le x y ≡ true → x ≤ℤ y
le-tested x y h = omega (arith, ints, h)

pub lt-tested : (x y : ℤ) → int_lt x y ≡ true → x <ℤ y
lt-tested x y h = omega (arith, ints, h)

pub le-passes : (x y : ℤ) → x ≤ℤ y → int_le x y ≡ true
le-passes x y h = le-case x y (int_le x y) refl h
  where
    le-case : (x y : ℤ) (b : Bool) → int_le x y ≡ b → x ≤ℤ y → b ≡ true
    le-case x y true e h = refl
    le-case x y false e h = absurd (omega (arith, ints, h, e))

pub lt-passes : (x y : ℤ) → x <ℤ y → int_lt x y ≡ true
lt-passes x y h = lt-case x y (int_lt x y) refl h
  where
    lt-case : (x y : ℤ) (b : Bool) → int_lt x y ≡ b → x <ℤ y → b ≡ true
    lt-case x y true e h = refl
    lt-case x y false e h = absurd (omega (arith, ints, h, e))
