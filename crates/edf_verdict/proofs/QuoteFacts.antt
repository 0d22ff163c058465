-- Bytes that stand for themselves between quotation marks.
use Rattle.std.proofs.Common.{◌≡◌, ℕ, Bool, true, false, ◌&&◌, List, [], ◌∷◌, ◌++◌, cond, refl, sym, ap, ◌∙◌}
use Rattle.std.specs.List.{flat_map, list_all}
use Rattle.edf_verdict.specs.Quotes.{is_plain, hex_digit, quoted_byte}

and_true : (a b : Bool) → (a && b) ≡ true → (a ≡ true) × (b ≡ true)
and_true true b h = (refl, h)
and_true false b h = absurd (let f : false ≡ true = h in cc)

pub plain_quoted : (text : List ℕ) → list_all is_plain text ≡ true → flat_map quoted_byte text ≡ text
plain_quoted [] h = refl
plain_quoted (b ∷ bs) h =
    let both = and_true (is_plain b) (list_all is_plain bs) h in
    let rest : flat_map quoted_byte bs ≡ bs = plain_quoted bs both.1 in
    let here : quoted_byte b ≡ b ∷ [] = rw both.0 refl in
    ap (λ xs. xs ++ flat_map quoted_byte bs) here ∙ ap (λ ys. b ∷ ys) rest
