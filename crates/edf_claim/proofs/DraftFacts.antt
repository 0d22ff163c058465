-- Lists that are the same as far as they were compared.
use Rattle.std.proofs.Common.{◌≡◌, ◌&&◌, ◌+◌, ◌<◌, ℕ, suc, Bool, true, false, not, int_eq, List, [], ◌∷◌, ◌++◌, length, take, get_or, refl, sym, ap, ap₂, subst, ◌∙◌, arith}
use Rattle.std.proofs.Math.Seq.{take-length, take-suc}
use Rattle.std.proofs.lemmas.Bool.Decides.{Decides-int_eq}
use Rattle.std.specs.Bool.{Decides}
use Rattle.edf_claim.specs.declared.kept.interval.Interval.{Interval}

-- one element more
pub same_more : {A : Type 0} (xs ys : List A) (i : ℕ) (d e : A) → i < length xs → i < length ys → take i xs ≡ take i ys → get_or xs i d ≡ get_or ys i e → take (i + 1) xs ≡ take (i + 1) ys
same_more xs ys i d e p q front here =
    let next : i + 1 ≡ suc i = omega arith in
    subst (λ n. take n xs ≡ take n ys) (sym next) (take-suc xs i d p ∙ (λ j. front j ++ (here j ∷ [])) ∙ sym (take-suc ys i e q))

-- all of them
pub same_all : {A : Type 0} (xs ys : List A) (n : ℕ) → n ≡ length xs → length xs ≡ length ys → take n xs ≡ take n ys → xs ≡ ys
same_all xs ys n all long same =
    sym (take-length xs) ∙ ap (λ k. take k xs) (sym all) ∙ same ∙ ap (λ k. take k ys) (all ∙ long) ∙ take-length ys

pub so_true : (b : Bool) → false ≡ not b → b ≡ true
so_true true h = refl
so_true false h = absurd (let f : false ≡ true = h in cc)

both_hold : (a b : Bool) → (a && b) ≡ true → (a ≡ true) × (b ≡ true)
both_hold true b h = (refl, h)
both_hold false b h = absurd (let f : false ≡ true = h in cc)

pub interval_decides : (a b : Interval) → Decides (int_eq a.from_ps b.from_ps && int_eq a.to_ps b.to_ps) (a ≡ b)
interval_decides a b = (
  (λ h. let p = both_hold (int_eq a.from_ps b.from_ps) (int_eq a.to_ps b.to_ps) h in
      let from = (Decides-int_eq a.from_ps b.from_ps).0 p.0 in
      let to = (Decides-int_eq a.to_ps b.to_ps).0 p.1 in
      λ i. record { from_ps = from i; to_ps = to i }),
  (λ e. ap₂ (λ (x y : Bool). x && y) ((Decides-int_eq a.from_ps b.from_ps).1 (ap (λ (v : Interval). v.from_ps) e)) ((Decides-int_eq a.to_ps b.to_ps).1 (ap (λ (v : Interval). v.to_ps) e))),
)
