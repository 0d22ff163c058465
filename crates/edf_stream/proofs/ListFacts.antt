-- Lists that grow.
use Rattle.std.proofs.Common.{◌≡◌, zero, suc, List, [], ◌∷◌, ◌++◌, sym, subst, arith}
use Rattle.std.specs.List.{All}
use Rattle.std.proofs.lemmas.List.Elements.{All-append}
use Rattle.edf_stream.specs.declared.annotation.notes.Note.{Note}
use Rattle.edf_stream.specs.Views.{IsNear}

-- what holds of each member of a list, and of one more
pub all-more : {X : Type 0} (P : X → Type 0) (xs : List X) (x : X) (ys : List X) → ys ≡ xs ++ x ∷ [] → All P xs → P x → All P ys
all-more {X} P xs x ys e h p =
    subst (All P) (sym e) (All-append P xs (x ∷ []) h (one x p))
  where
    one : (y : X) → P y → All P (y ∷ [])
    one y q zero d lt = q
    one y q (suc k) d lt = absurd (omega arith)

-- annotations that are near, and one more
pub near_more : (xs : List Note) (x : Note) (ys : List Note) → ys ≡ xs ++ x ∷ [] → All IsNear xs → IsNear x → All IsNear ys
near_more = all-more IsNear
