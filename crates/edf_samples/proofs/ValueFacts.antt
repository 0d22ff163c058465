-- Two samples have two values exactly where their bytes differ.
use Rattle.std.proofs.Common.{◌≡◌, ℕ, ◌+◌, ◌*◌, ◌<◌, ◌==◌, ◌&&◌, Bool, cond, not, nat_lt, pos, ◌-ℤ◌, List, [], ◌∷◌, filter, length, get_or, Option, Some, None, refl, sym, ap, ◌∙◌, arith, Fits, w8}
use Rattle.std.specs.Bool.{Decides}
use Rattle.std.specs.List.{range_with_len}
use Rattle.std.specs.Ordering.{int_eq}
use Rattle.std.proofs.lemmas.Bool.Decides.{Decides-and, Decides-eqb, Decides-int_eq, same_from_decides}
use Rattle.std.proofs.lemmas.Int.{ints}
use Rattle.edf_stream.specs.samples.Values.{digital}
use Rattle.edf_samples.specs.declared.counts.places.Places.{Places}
use Rattle.edf_samples.specs.Others.{AreOthers, differs, values_differ}
use Rattle.edf_samples.proofs.FilterFacts.{by_test}

digital-apart : (a b c d : ℕ) → a < 256 → b < 256 → c < 256 → d < 256 → digital a b ≡ digital c d → (a ≡ c) × (b ≡ d)
digital-apart a b c d p q r s =
    by_test (nat_lt b 128) (λ t. cond t (pos (a + 256 * b)) (pos (a + 256 * b) -ℤ pos 65536) ≡ digital c d → (a ≡ c) × (b ≡ d))
    (λ e. by_test (nat_lt d 128) (λ t. pos (a + 256 * b) ≡ cond t (pos (c + 256 * d)) (pos (c + 256 * d) -ℤ pos 65536) → (a ≡ c) × (b ≡ d))
    (λ f h. (omega (arith, ints), omega (arith, ints))) (λ f h. absurd (omega (arith, ints))))
    (λ e. by_test (nat_lt d 128) (λ t. (pos (a + 256 * b) -ℤ pos 65536) ≡ cond t (pos (c + 256 * d)) (pos (c + 256 * d) -ℤ pos 65536) → (a ≡ c) × (b ≡ d))
    (λ f h. absurd (omega (arith, ints))) (λ f h. (omega (arith, ints), omega (arith, ints))))

values-same : (a b c d : ℕ) → a < 256 → b < 256 → c < 256 → d < 256 → int_eq (digital a b) (digital c d) ≡ ((a == c) && (b == d))
values-same a b c d p q r s = same_from_decides (int_eq (digital a b) (digital c d)) ((a == c) && (b == d)) decided (Decides-and (a == c) (b == d) (Decides-eqb a c) (Decides-eqb b d))
  where
    decided : Decides (int_eq (digital a b) (digital c d)) ((a ≡ c) × (b ≡ d))
    decided = (
      λ t. digital-apart a b c d p q r s ((Decides-int_eq (digital a b) (digital c d)).0 t),
      λ e. (Decides-int_eq (digital a b) (digital c d)).1 (ap (λ x. digital x b) e.0 ∙ ap (λ x. digital c x) e.1),
    )

-- bytes, each of which is below 256
abbrev AreBytes : List ℕ → Type 0
AreBytes xs = (i : ℕ) → Fits w8 (get_or xs i 0)

byte : (xs : List ℕ) → AreBytes xs → (i : ℕ) → get_or xs i 0 < 256
byte xs fits i = let h = (fits i).fits in omega (arith, h)

value-differs : (s : ℕ) (xs ys : List ℕ) → AreBytes xs → AreBytes ys → (k : ℕ) → differs s xs ys k ≡ values_differ s xs ys k
value-differs s xs ys fx fy k =
    sym (ap not (values-same (get_or xs (2 * (s * k)) 0) (get_or xs (2 * (s * k) + 1) 0) (get_or ys (2 * k) 0) (get_or ys (2 * k + 1) 0)
    (byte xs fx (2 * (s * k))) (byte xs fx (2 * (s * k) + 1)) (byte ys fy (2 * k)) (byte ys fy (2 * k + 1))))

filter-same : (p q : ℕ → Bool) → ((k : ℕ) → p k ≡ q k) → (ks : List ℕ) → filter p ks ≡ filter q ks
filter-same p q same [] = refl
filter-same p q same (k ∷ ks) = rw (same k, filter-same p q same ks) refl

pub others_same : (p q : ℕ → Bool) → ((k : ℕ) → p k ≡ q k) → (n : ℕ) (places : Option Places) → AreOthers p n places → AreOthers q n places
others_same p q same n None h = λ k lt. sym (same k) ∙ h k lt
others_same p q same n (Some x) h = record {
  count_is = h.count_is ∙ ap length (filter-same p q same (range_with_len 0 n));
  first_passes = sym (same x.first) ∙ h.first_passes;
  none_before = λ k lt. sym (same k) ∙ h.none_before k lt;
  last_passes = sym (same x.last) ∙ h.last_passes;
  last_within = h.last_within;
  none_behind = λ k l lt. sym (same k) ∙ h.none_behind k l lt;
}

pub others_of_values : (s : ℕ) (xs ys : List ℕ) (n : ℕ) (places : Option Places) → AreBytes xs → AreBytes ys → AreOthers (differs s xs ys) n places → AreOthers (values_differ s xs ys) n places
others_of_values s xs ys n places fx fy h = others_same (differs s xs ys) (values_differ s xs ys) (value-differs s xs ys fx fy) n places h
