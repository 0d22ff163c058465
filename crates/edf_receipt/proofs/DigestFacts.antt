-- What a source has digested that hands on another one's bytes.
use Rattle.std.proofs.Common.{◌≡◌, ◌&&◌, ◌+◌, ◌-◌, ◌^◌, ◌≤◌, ℕ, zero, suc, Bool, true, false, nat_eq, IsTrue, List, ◌++◌, length, min, refl, sym, ap, subst, ◌∙◌, append_assoc, arith}
use Rattle.std.proofs.lemmas.Bool.Decides.{nat_tests}
use Rattle.std.proofs.lemmas.List.{length-append}
use Rattle.sha2.specs.Hashers.{Holds256}
use Rattle.sha2.specs.declared.Sha256.{Sha256}
use Rattle.edf_receipt.specs.Digests.{HasDigested}

-- what an honest source says of itself
pub unlocked : (known : Bool) (failed : ℕ) → IsTrue (known && nat_eq failed 0) → (failed ≡ 0) × IsTrue known
unlocked true zero h = (refl, refl)
unlocked true (suc n) h = absurd (let z : nat_eq (suc n) 0 ≡ true = h in grind (arith, nat_tests, z))
unlocked false n h = absurd (let z : false ≡ true = h in cc)

-- and the other way round
pub locked : (known : Bool) (failed : ℕ) → failed ≡ 0 → known ≡ true → IsTrue (known && nat_eq failed 0)
locked known failed none is = subst (λ (k : Bool). IsTrue (k && nat_eq failed 0)) (sym is) (subst (λ (n : ℕ). IsTrue (nat_eq n 0)) (sym none) refl)

-- what is left of the whole is no longer than it
pub left_short : (whole gone left : List ℕ) → whole ≡ gone ++ left → length left ≤ length whole
left_short whole gone left e = let n = ap length e ∙ length-append gone left in omega (arith, n)

-- what is handed on is digested, and counted
pub digested_more : (hasher new : Sha256) (bytes more count : ℕ) (whole left rest given : List ℕ) → HasDigested hasher bytes whole left → left ≡ given ++ rest → ((m : List ℕ) → Holds256 hasher m → Holds256 new (m ++ given))
    → length given ≡ count → more ≡ min (bytes + count) (2 ^ 64 - 1) → HasDigested new more whole rest
digested_more hasher new bytes more count whole left rest given d takes update long added = (
  d.0 ++ given,
  update d.0 d.1,
  d.2 ∙ ap (λ l. d.0 ++ l) takes ∙ sym (append_assoc d.0 given rest),
  (let b = d.3 in let n = length-append d.0 given in omega (arith, added, b, n, long)),
)
